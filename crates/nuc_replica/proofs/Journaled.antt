-- A remote that follows a journal.
use Rattle.std.proofs.Common.{◌≡◌, ◌≢◌, ◌==◌, ◌+◌, ◌-◌, ◌≤◌, ◌++◌, ℕ, zero, suc, cond, List, [], ◌∷◌, length, take, drop, slice_get, Option, None, Some, refl, sym, ◌∙◌, ap, subst, inl, inr, arith}
use Rattle.std.proofs.lemmas.Bool.Decides.{eqb_tells}
use Rattle.std.proofs.lemmas.List.{append-nil, drop-append-le, drop-drop, length-append, length-drop, length-take, length-take-le, take-append-le, take_rest}
use Rattle.std.specs.FinMap.{empty, get, get-empty}
use Rattle.std.specs.Ordering.{nat_cmp}
use Rattle.nuc_base.specs.Trees.{Nodes}
use Rattle.nuc_base.specs.declared.node.Node.{Node}
use Rattle.nuc_journal.specs.Entries.{live_revision, revision_after, revision_of, tree_after, tree_of, with_value}
use Rattle.nuc_journal.specs.Journal.{IsJournal}
use Rattle.nuc_journal.specs.declared.entry.Entry.{Entry}
use Rattle.nuc_journal.proofs.Ends.{tree_push}
use Rattle.nuc_journal.proofs.Histories.{page_leads}
use Rattle.nuc_journal.proofs.Lists.{front_more, take_at, within}
use Rattle.nuc_lookup.proofs.Maps as numbers
use Rattle.nuc_lookup.specs.Rows.{Numbers}
use Rattle.nuc_replica.specs.Following.{IsAt, MoreEntriesKeepIt, NextEntriesFollow, RemotesStayAt, next_entries}
use Rattle.nuc_replica.specs.Remote.{Agree, GoesOn, HasRevision, HaveRevisions, RemoteState, caught_up, forgotten, heard, or_zero, revisions_after, with_entries, with_revision}

-- ENTRIES THAT FOLLOW
from_item : (es : List Entry) (c : ℕ) (e : Entry) → slice_get es c ≡ Some e → drop c es ≡ e ∷ drop (c + 1) es
from_item [] c e at = cc
from_item (f ∷ es) zero e at = let same : f ≡ e = cc in ap (λ g. g ∷ es) same
from_item (f ∷ es) (suc c) e at =
    let next : suc c + 1 ≡ suc (c + 1) = omega arith in
    from_item es c e at ∙ ap (λ n. e ∷ drop n (f ∷ es)) (sym next)

past_end : (es : List Entry) (c : ℕ) → slice_get es c ≡ None → drop c es ≡ []
past_end [] zero past = refl
past_end [] (suc c) past = refl
past_end (f ∷ es) zero past = cc
past_end (f ∷ es) (suc c) past = past_end es c past

take_none : (n : ℕ) → ◌≡◌ {A = List Entry} (take n []) []
take_none zero = refl
take_none (suc n) = refl

module _ (es : List Entry) (journal : IsJournal es) where
  pub goes_on_next : (n c : ℕ) → GoesOn c (tree_of (take c es)) (take n (drop c es))
  goes_on_next zero c = tt
  goes_on_next (suc n) c = elim (slice_get es c) as (λ (o : Option Entry). slice_get es c ≡ o → GoesOn c (tree_of (take c es)) (take (suc n) (drop c es))) [
    | None ↦ λ past. subst (λ fs. GoesOn c (tree_of (take c es)) (take (suc n) fs)) (sym (past_end es c past)) tt
    | Some e ↦ λ at.
        let next = journal c e at in
        let size : length (take c es) ≡ c = (let lt = within es c e at in length-take-le c es (omega arith)) in
        let more : take (c + 1) es ≡ take c es ++ e ∷ [] = (let one : c + 1 ≡ suc c = omega arith in ap (λ k. take k es) one ∙ take_at es c e at) in
        let tree : tree_of (take (c + 1) es) ≡ with_value (tree_of (take c es)) e.id.0 e.value = ap tree_of more ∙ tree_push (take c es) e in
        subst (λ fs. GoesOn c (tree_of (take c es)) (take (suc n) fs)) (sym (from_item es c e at))
        (record { rev = next.rev ∙ ap (λ k. k + 1) size; id = next.id; legal = next.legal }, subst (λ m. GoesOn (c + 1) m (take n (drop (c + 1) es))) tree (goes_on_next n (c + 1)))
  ] refl

agree_nothing : (known : List Entry) → Agree known []
agree_nothing [] = tt
agree_nothing (e ∷ es) = tt

agree_with_front : (fs : List Entry) (n : ℕ) → Agree (take n fs) fs
agree_with_front fs zero = tt
agree_with_front [] (suc n) = tt
agree_with_front (f ∷ fs) (suc n) = (refl, agree_with_front fs n)

drop_nothing : (n : ℕ) → ◌≡◌ {A = List Entry} (drop n []) []
drop_nothing zero = refl
drop_nothing (suc n) = refl

agree_alone : (es fs : List Entry) → Agree es fs → Agree (es ++ []) fs
agree_alone es fs agree = subst (λ gs. Agree gs fs) (sym (append-nil es)) agree

agree_front : (known fs : List Entry) (n : ℕ) → Agree known fs → Agree known (take n fs)
agree_front [] fs n agree = tt
agree_front (e ∷ es) [] zero agree = tt
agree_front (e ∷ es) [] (suc n) agree = tt
agree_front (e ∷ es) (f ∷ fs) zero agree = tt
agree_front (e ∷ es) (f ∷ fs) (suc n) agree = (agree.0, agree_front es fs n agree.1)

pub next_entries_follow : NextEntriesFollow
next_entries_follow es s n journal at = record {
  goes_on = subst (λ m. GoesOn s.cursor m (next_entries es s n)) (sym at.tree) (goes_on_next es journal n s.cursor);
  agrees = agree_front s.ahead (drop s.cursor es) n at.ahead;
}

-- WHERE THEY LEAD
revision_own : (revisions : Numbers) (x rev : ℕ) (v : Option Node) → or_zero (get (with_revision revisions x v rev) x) ≡ live_revision v rev
revision_own revisions x rev None = ap or_zero (numbers.get_cut_same revisions x)
revision_own revisions x rev (Some n) = ap or_zero (numbers.get_put_same revisions x rev)

revision_other : (revisions : Numbers) (x rev : ℕ) (v : Option Node) (y : ℕ) → y ≢ x → or_zero (get (with_revision revisions x v rev) y) ≡ or_zero (get revisions y)
revision_other revisions x rev None y apart = ap or_zero (numbers.get_cut_other revisions x y apart)
revision_other revisions x rev (Some n) y apart = ap or_zero (numbers.get_put_other revisions x rev y apart)

revision_with : (revisions : Numbers) (x rev : ℕ) (v : Option Node) (y : ℕ)
    → or_zero (get (with_revision revisions x v rev) y) ≡ cond (x == y) (live_revision v rev) (or_zero (get revisions y))
revision_with revisions x rev v y = elim (eqb_tells x y) [
  | inl (t, same) ↦ subst (λ z. or_zero (get (with_revision revisions x v rev) z) ≡ live_revision v rev) same (revision_own revisions x rev v)
      ∙ sym (ap (λ b. cond b (live_revision v rev) (or_zero (get revisions y))) t)
  | inr (t, apart) ↦ revision_other revisions x rev v y (λ s. apart (sym s)) ∙ sym (ap (λ b. cond b (live_revision v rev) (or_zero (get revisions y))) t)
]

revisions_along : (revisions : Numbers) (es : List Entry) (x : ℕ) → or_zero (get (revisions_after revisions es) x) ≡ revision_after (or_zero (get revisions x)) es x
revisions_along revisions [] x = refl
revisions_along revisions (e ∷ es) x = revisions_along (with_revision revisions e.id.0 e.value e.rev) es x
    ∙ ap (λ rev. revision_after rev es x) (revision_with revisions e.id.0 e.rev e.value x)

revision_after-append : (rev : ℕ) (es fs : List Entry) (x : ℕ) → revision_after rev (es ++ fs) x ≡ revision_after (revision_after rev es x) fs x
revision_after-append rev [] fs x = refl
revision_after-append rev (e ∷ es) fs x = revision_after-append (cond (e.id.0 == x) (live_revision e.value e.rev) rev) es fs x

agree_later : (known fs : List Entry) (n : ℕ) → Agree known fs → Agree (drop n known) (drop n fs)
agree_later known fs zero agree = agree
agree_later [] fs (suc n) agree = tt
agree_later (e ∷ es) [] (suc n) agree = agree_nothing (drop n es)
agree_later (e ∷ es) (f ∷ fs) (suc n) agree = agree_later es fs n agree.1

pub at_next : (es : List Entry) (s : RemoteState) (n : ℕ) → IsAt es s → IsAt es (with_entries s (next_entries es s n))
at_next es s n at =
    let page = next_entries es s n in
    let size = length-take n (drop s.cursor es) in
    let rest = length-drop s.cursor es in
    let left = length-drop (length page) s.ahead in
    let old = at.within in
    let reached : s.cursor ≤ length es = omega arith in
    let front : take (s.cursor + length page) es ≡ take s.cursor es ++ page = front_more s.cursor n es reached in
    record {
      tree = ap (λ m. tree_after m page) at.tree ∙ page_leads es s.cursor n reached;
      revisions = λ x. revisions_along s.revisions page x ∙ ap (λ rev. revision_after rev page x) (at.revisions x)
          ∙ sym (revision_after-append 0 (take s.cursor es) page x) ∙ sym (ap (λ fs. revision_of fs x) front);
      ahead = subst (Agree (drop (length page) s.ahead)) (drop-drop (length page) s.cursor es) (agree_later s.ahead (drop s.cursor es) (length page) at.ahead);
      within = omega (arith, size, rest, left);
    }

agree_heard : (known fs : List Entry) (n : ℕ) → Agree known fs → Agree (known ++ drop (length known) (take n fs)) fs
agree_heard [] fs n agree = agree_with_front fs n
agree_heard (e ∷ es) [] n agree = agree_nothing ((e ∷ es) ++ drop (length (e ∷ es)) (take n []))
agree_heard (e ∷ es) (f ∷ fs) zero agree = (agree.0, subst (λ gs. Agree (es ++ gs) fs) (sym (drop_nothing (length (e ∷ es)))) (agree_alone es fs agree.1))
agree_heard (e ∷ es) (f ∷ fs) (suc n) agree =
    let more : length (e ∷ es) ≡ suc (length es) = omega arith in
    (agree.0, subst (λ k. Agree (es ++ drop k (f ∷ take n fs)) fs) (sym more) (agree_heard es fs n agree.1))

pub at_heard : (es : List Entry) (s : RemoteState) (n : ℕ) → IsAt es s → IsAt es (heard (next_entries es s n) s)
at_heard es s n at =
    let size = length-take n (drop s.cursor es) in
    let rest = length-drop s.cursor es in
    let new = length-drop (length s.ahead) (next_entries es s n) in
    let all = length-append s.ahead (drop (length s.ahead) (next_entries es s n)) in
    let old = at.within in
    record {
      tree = at.tree;
      revisions = at.revisions;
      ahead = agree_heard s.ahead (drop s.cursor es) n at.ahead;
      within = omega (arith, size, rest, new, all);
    }

-- a front of what is ahead is one of what comes in the journal
front_ahead : (known fs : List Entry) (n : ℕ) → Agree known fs → length known ≤ length fs → take n known ≡ take (length (take n known)) fs
front_ahead known fs zero agree few = refl
front_ahead [] fs (suc n) agree few = refl
front_ahead (e ∷ es) [] (suc n) agree few = absurd (omega arith)
front_ahead (e ∷ es) (f ∷ fs) (suc n) agree few =
    let more : length (e ∷ take n es) ≡ suc (length (take n es)) = omega arith in
    ap (λ g. g ∷ take n es) agree.0 ∙ ap (λ gs. f ∷ gs) (front_ahead es fs n agree.1 (omega arith)) ∙ ap (λ k. take k (f ∷ fs)) (sym more)

pub at_caught_up : (es : List Entry) (s : RemoteState) (rev : ℕ) → IsAt es s → IsAt es (caught_up rev s)
at_caught_up es s rev at =
    let rest = length-drop s.cursor es in
    let old = at.within in
    let front = front_ahead s.ahead (drop s.cursor es) (rev - s.cursor) at.ahead (omega (arith, rest)) in
    subst (λ fs. IsAt es (with_entries s fs)) (sym front) (at_next es s (length (take (rev - s.cursor) s.ahead)) at)

pub at_forgotten : (es : List Entry) (s : RemoteState) → IsAt es s → IsAt es (forgotten s)
at_forgotten es s at = let old = at.within in record { tree = at.tree; revisions = at.revisions; ahead = tt; within = omega arith }

pub remotes_stay : RemotesStayAt
remotes_stay es s at = (λ n. at_next es s n at, λ n. at_heard es s n at, λ rev. at_caught_up es s rev at, at_forgotten es s at)

agree_more : (known fs more : List Entry) → Agree known fs → length known ≤ length fs → Agree known (fs ++ more)
agree_more [] fs more agree few = tt
agree_more (e ∷ es) [] more agree few = absurd (omega arith)
agree_more (e ∷ es) (f ∷ fs) more agree few = (agree.0, agree_more es fs more agree.1 (omega arith))

pub at_more : MoreEntriesKeepIt
at_more es more s at =
    let old = at.within in
    let rest = length-drop s.cursor es in
    let all = length-append es more in
    let front : take s.cursor (es ++ more) ≡ take s.cursor es = take-append-le s.cursor es more (omega arith) in
    record {
      tree = at.tree ∙ sym (ap tree_of front);
      revisions = λ x. at.revisions x ∙ sym (ap (λ fs. revision_of fs x) front);
      ahead = subst (Agree s.ahead) (sym (drop-append-le s.cursor es more (omega arith))) (agree_more s.ahead (drop s.cursor es) more at.ahead (omega (arith, rest)));
      within = omega (arith, all);
    }

-- WHERE IT BEGINS
no_node : (m : Nodes) (x : ℕ) → m ≡ empty → get m x ≡ None
no_node m x none = ap (λ k. get k x) none ∙ get-empty nat_cmp x

no_number : (revisions : Numbers) (x : ℕ) → revisions ≡ empty → get revisions x ≡ None
no_number revisions x none = ap (λ k. get k x) none ∙ get-empty nat_cmp x

pub none_have : (m : Nodes) (revisions : Numbers) → m ≡ empty → revisions ≡ empty → HaveRevisions m revisions 0
none_have m revisions tree numbers x = subst (λ n. HasRevision n (get revisions x) 0) (sym (no_node m x tree)) (subst (λ r. HasRevision None r 0) (sym (no_number revisions x numbers)) tt)

-- a remote of nothing is what any journal comes to before its first entry
pub at_start : (es : List Entry) (m : Nodes) (revisions : Numbers) → m ≡ empty → revisions ≡ empty → IsAt es (record { tree = m; revisions = revisions; cursor = 0; ahead = [] })
at_start es m revisions tree numbers = record {
  tree = tree;
  revisions = λ x. ap or_zero (no_number revisions x numbers);
  ahead = tt;
  within = omega arith;
}

-- the next entries as slices give them
pub sliced_next : (es : List Entry) (s : RemoteState) (c n : ℕ) → c ≡ s.cursor → take n (take (length es - c) (drop c es)) ≡ next_entries es s n
sliced_next es s c n same = ap (take n) (take_rest es c) ∙ ap (λ k. take n (drop k es)) same
