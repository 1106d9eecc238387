-- Where changes and taking them back lead.
use Rattle.std.proofs.Common.{◌≡◌, ◌≤◌, ◌+◌, ℕ, zero, suc, length, refl, sym, ◌∙◌, ap, arith}
use Rattle.nuc_undo.specs.Laws.{BackLeadsBack, Changes}
use Rattle.nuc_undo.specs.Laws.Changes.{no_change, one_change}
use Rattle.nuc_undo.specs.State.{UndoState, earliest, settled_of}

-- what changes lead to
record Reached (s t : UndoState) : Type 0 where
  settled : settled_of t ≡ settled_of s
  spare : s.spare + length s.past ≤ t.spare + length t.past
  laid_then : t.laid_then ≡ s.laid_then

reached : (k : ℕ) (s t : UndoState) → Changes k s t → Reached s t
reached zero _ _ (no_change s) = record { settled = refl; spare = omega arith; laid_then = refl }
reached (suc _) _ _ (one_change k x s t u changes change) =
    let before = reached k s t changes in
    let more = ap (λ past. length past) change.past in
    let a = before.spare in
    let b = change.spare in
    record { settled = ap (λ past. earliest u.now past) change.past ∙ before.settled; spare = omega arith; laid_then = change.laid_then ∙ before.laid_then }

pub back_leads_back : BackLeadsBack
back_leads_back k s t u none changes back =
    let there = reached k s t changes in
    let settled : settled_of s ≡ s.now = ap (λ past. earliest s.now past) none.past in
    let size = ap (λ past. length past) none.past in
    let a = there.spare in
    let b = back.spare in
    record {
      now = back.now ∙ there.settled ∙ settled;
      past = back.past ∙ sym none.past;
      spare = omega arith;
      laid = back.laid ∙ there.laid_then ∙ none.laid;
      laid_then = back.laid_then ∙ there.laid_then;
    }
