-- The entries behind a client's cursor, and how far a Done catches up.
use Rattle.std.specs.Prelude.{Contains}
use Rattle.std.proofs.Common.{◌≡◌, ◌<◌, ◌≤◌, ◌+◌, ◌-◌, ℕ, zero, suc, List, [], ◌∷◌, length, take, drop, slice_get, Option, None, Some, refl, sym, ap, subst, ◌∙◌, arith}
use Rattle.std.proofs.lemmas.List.{drop-drop, get_or-drop, length-drop, length-take-le}
use Rattle.std.proofs.lemmas.Option.{slice_get-get_or}
use Rattle.nuc_journal.specs.Entries.{tree_after}
use Rattle.nuc_journal.specs.Journal.{IsJournal}
use Rattle.nuc_journal.specs.declared.entry.Entry.{Entry}
use Rattle.nuc_journal.proofs.Journals.{rev_at}
use Rattle.nuc_replica.specs.Following.{IsAt}
use Rattle.nuc_replica.specs.Remote.{Agree, RemoteState, caught_up}
use Rattle.nuc_step.specs.Sound.{known_to}

-- THEIR REVISIONS
none_at : (i : ℕ) → ◌≡◌ {A = Option Entry} (slice_get [] i) None
none_at zero = refl
none_at (suc i) = refl

at_drop : (c i : ℕ) (es : List Entry) → slice_get (drop c es) i ≡ slice_get es (c + i)
at_drop zero i es = let same : i ≡ zero + i = omega arith in ap (slice_get es) same
at_drop (suc c) i [] = none_at i ∙ sym (none_at (suc c + i))
at_drop (suc c) i (e ∷ es) = let more : suc (c + i) ≡ suc c + i = omega arith in at_drop c i es ∙ ap (slice_get (e ∷ es)) more

-- one that is behind the cursor has a place there, and the revision that the place says
pub behind_at : (es : List Entry) (cursor k : ℕ) (e : Entry) → IsJournal es → slice_get (drop cursor es) k ≡ Some e → e.rev ≡ cursor + k + 1
behind_at es cursor k e journal at = rev_at es (cursor + k) e journal (sym (at_drop cursor k es) ∙ at)

pub behind : (es : List Entry) (cursor : ℕ) (e : Entry) → IsJournal es → Contains (drop cursor es) e → cursor < e.rev
behind es cursor e journal (k, less, is) =
    let counted = behind_at es cursor k e journal (slice_get-get_or (drop cursor es) k e less ∙ ap Some is) in
    omega (arith, counted)

-- what is behind a later cursor is behind this one too
pub behind_more : (es : List Entry) (cursor k : ℕ) (e : Entry) → Contains (drop (cursor + k) es) e → Contains (drop cursor es) e
behind_more es cursor k e comes = of_rest (subst (λ fs. Contains fs e) (sym (drop-drop k cursor es)) comes)
  where
    of_rest : Contains (drop k (drop cursor es)) e → Contains (drop cursor es) e
    of_rest (i, less, is) = let rest = length-drop k (drop cursor es) in (k + i, omega (arith, less, rest), sym (get_or-drop k (drop cursor es) i e) ∙ is)

-- CATCHING UP with what was heard is going on in the journal
front_heard : (known es : List Entry) (k : ℕ) → Agree known es → k ≤ length known → length known ≤ length es → take k known ≡ take k es
front_heard known es zero agree within few = refl
front_heard [] es (suc k) agree within few = absurd (omega (arith, within))
front_heard (a ∷ known) [] (suc k) agree within few = absurd (omega (arith, few))
front_heard (a ∷ known) (e ∷ es) (suc k) agree within few =
    ap (λ f. f ∷ take k known) agree.0 ∙ ap (λ fs. e ∷ fs) (front_heard known es k agree.1 (omega (arith, within)) (omega (arith, few)))

module _ (es : List Entry) (remote : RemoteState) (rev : ℕ) (at : IsAt es remote) (known : rev ≤ known_to remote) where
  -- so many entries
  abbrev pub ahead_to : ℕ
  ahead_to = rev - remote.cursor

  pub within_ahead : ahead_to ≤ length (drop remote.cursor es)
  within_ahead =
      let old = at.within in
      let rest = length-drop remote.cursor es in
      omega (arith, known, old, rest)

  pub caught_tree : (caught_up rev remote).tree ≡ tree_after remote.tree (take ahead_to (drop remote.cursor es))
  caught_tree =
      let old = at.within in
      let rest = length-drop remote.cursor es in
      ap (tree_after remote.tree) (front_heard remote.ahead (drop remote.cursor es) ahead_to at.ahead (omega (arith, known)) (omega (arith, old, rest)))

  pub caught_cursor : (caught_up rev remote).cursor ≡ remote.cursor + ahead_to
  caught_cursor = ap (λ k. remote.cursor + k) (length-take-le ahead_to remote.ahead (omega (arith, known)))

  pub not_before : rev ≤ remote.cursor + ahead_to
  not_before = omega arith
