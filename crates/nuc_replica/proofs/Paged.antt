-- A page of a journal's next entries, and what pulling or hearing of it makes of a remote.
use Rattle.std.proofs.Common.{◌≡◌, ◌++◌, ℕ, List, [], take, drop, sym, ◌∙◌, ap, subst}
use Rattle.std.specs.FinMap.{empty}
use Rattle.nuc_base.specs.Trees.{Nodes}
use Rattle.nuc_journal.specs.Journal.{IsJournal}
use Rattle.nuc_journal.specs.declared.entry.Entry.{Entry}
use Rattle.nuc_lookup.specs.Rows.{Numbers}
use Rattle.nuc_replica.specs.Following.{IsAt}
use Rattle.nuc_replica.specs.Remote.{Follows, RemoteState, RemoteStates, caught_up, forgotten, heard, with_entries}
use Rattle.nuc_replica.proofs.Journaled.{at_caught_up, at_forgotten, at_heard, at_more, at_next, at_start, next_entries_follow}

-- the n entries after the k-th, where that is the cursor
module _ (es page : List Entry) (s : RemoteState) (n k : ℕ) (cursor : k ≡ s.cursor) (is : page ≡ take n (drop k es)) where
  same_page : page ≡ take n (drop s.cursor es)
  same_page = is ∙ ap (λ i. take n (drop i es)) cursor

  pub next_follow : IsJournal es → IsAt es s → Follows s page
  next_follow journal at = subst (Follows s) (sym same_page) (next_entries_follow es s n journal at)

  pub at_page : IsAt es s → IsAt es (with_entries s page)
  at_page at = subst (λ p. IsAt es (with_entries s p)) (sym same_page) (at_next es s n at)

  pub at_news : IsAt es s → IsAt es (heard page s)
  at_news at = subst (λ p. IsAt es (heard p s)) (sym same_page) (at_heard es s n at)

-- a remote is what the journal comes to at its cursor, now and after `back`
abbrev pub StaysAt : List Entry → RemoteStates → Type 0
StaysAt es r = IsAt es r.now × IsAt es r.settled

pub stays_at : (es : List Entry) (r t : RemoteStates) (s : RemoteState) → t.now ≡ s → t.settled ≡ r.settled → IsAt es s → StaysAt es r → StaysAt es t
stays_at es r t s now settled at old = (subst (IsAt es) (sym now) at, subst (IsAt es) (sym settled) old.1)

pub at_more_entries : (es more all : List Entry) (r : RemoteStates) → all ≡ es ++ more → StaysAt es r → StaysAt all r
at_more_entries es more all r same at = (subst (λ fs. IsAt fs r.now) (sym same) (at_more es more r.now at.0), subst (λ fs. IsAt fs r.settled) (sym same) (at_more es more r.settled at.1))

pub at_first : (es : List Entry) (m : Nodes) (revisions : Numbers) (r : RemoteStates) → m ≡ empty → revisions ≡ empty
    → r.now ≡ record { tree = m; revisions = revisions; cursor = 0; ahead = [] } → r.settled ≡ r.now → StaysAt es r
at_first es m revisions r tree numbers same settled =
    let now = subst (IsAt es) (sym same) (at_start es m revisions tree numbers) in
    (now, subst (IsAt es) (sym settled) now)
