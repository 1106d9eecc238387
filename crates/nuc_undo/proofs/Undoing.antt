-- A change that is taken back, and what is kept for that.
use Rattle.std.proofs.Common.{◌≡◌, ◌<◌, ◌≤◌, ◌+◌, ℕ, List, [], ◌∷◌, length, reverse, ◌++◌, ap, ◌∙◌, None, Some, refl, sym, subst, inl, inr, arith}
use Rattle.std.proofs.lemmas.List.{reverse-append}
use Rattle.std.specs.FinMap.{get, insert, remove}
use Rattle.nuc_base.specs.Legal.{LegalPut}
use Rattle.nuc_base.specs.Trees.{Nodes, IsThere, WellFormed}
use Rattle.nuc_base.specs.declared.node.Node.{Node}
use Rattle.nuc_base.specs.declared.node.NodeId.{NodeId}
use Rattle.nuc_base.proofs.Back.{cut_after_put, legal_cut_back, legal_put_after_cut, legal_put_back, put_after_cut, put_over_put}
use Rattle.nuc_base.proofs.Forms.{cut_keeps, put_keeps}
use Rattle.nuc_base.proofs.Maps.{get_put_same, not_both, same_or_not}
use Rattle.nuc_undo.specs.State.{earliest, past_of}
use Rattle.nuc_undo.specs.Undo.{AreUndoable, IsUndoable, TakesBack, owed, owed_all, undone}
use Rattle.nuc_undo.specs.declared.undo.Step.{Step}
use Rattle.nuc_undo.specs.declared.undo.Undo.{Undo}
use Rattle.nuc_undo.specs.declared.undo.Undo.TheVariants as undo

-- ONE CHANGE
pub removes : (m : Nodes) (id : NodeId) (n : Node) → WellFormed m → 0 < id.0 → LegalPut m id.0 n → get m id.0 ≡ None
    → TakesBack m (insert m id.0 n) id.0 (undo.Remove id)
removes m id n form above legal absent = record {
  able = legal_cut_back m id.0 n form (λ s. absurd (omega arith)) legal absent;
  same = cut_after_put m id.0 n absent;
  whose = refl;
}

pub replaces : (m : Nodes) (id : NodeId) (n old : Node) → WellFormed m → 0 < id.0 → LegalPut m id.0 n → get m id.0 ≡ Some old
    → TakesBack m (insert m id.0 n) id.0 (undo.Replace id old)
replaces m id n old form above legal at = record {
  able = (above, form.fits id.0 old at, legal_put_back m id.0 n old form legal at, (n, get_put_same m id.0 n));
  same = put_over_put m id.0 n old at;
  whose = refl;
}

pub restores : (m : Nodes) (id : NodeId) (old : Node) → WellFormed m → 0 < id.0 → get m id.0 ≡ Some old
    → TakesBack m (remove m id.0) id.0 (undo.Restore id old)
restores m id old form above at = record {
  able = (above, form.fits id.0 old at, legal_put_after_cut m id.0 old form at);
  same = put_after_cut m id.0 old at;
  whose = refl;
}

-- ALL CHANGES
undone_form : (m : Nodes) (u : Undo) → WellFormed m → IsUndoable m u → WellFormed (undone m u)
undone_form m (undo.Remove id) form legal = cut_keeps m id.0 form legal
undone_form m (undo.Replace id old) form able = put_keeps m id.0 old form able.2 able.0 able.1
undone_form m (undo.Restore id old) form able = put_keeps m id.0 old form able.2 able.0 able.1

-- the tree when it was settled is well formed
pub settled_form : (m : Nodes) (steps : List Step) → WellFormed m → AreUndoable m steps → WellFormed (earliest m (past_of m steps))
settled_form m [] form able = form
settled_form m (s ∷ steps) form able = settled_form (undone m s.undo) steps (undone_form m s.undo form able.0) able.1

-- what is kept is at most two for each
few_owed_one : (u : Undo) → owed u ≤ 2
few_owed_one (undo.Remove id) = omega arith
few_owed_one (undo.Replace id old) = omega arith
few_owed_one (undo.Restore id old) = omega arith

pub few_owed : (steps : List Step) → owed_all steps ≤ length steps + length steps
few_owed [] = omega arith
few_owed (s ∷ steps) = let ih = few_owed steps in let one = few_owed_one s.undo in omega arith

-- what stands in a tree isn't the root
pub above_root : (m : Nodes) (x : ℕ) → WellFormed m → IsThere m x → 0 < x
above_root m x form (n, at) = elim (same_or_not x 0) [
  | inl root ↦ absurd (not_both m x n (subst (λ y. get m y ≡ None) (sym root) form.no_root) at)
  | inr other ↦ omega arith
]

-- THE LAST CHANGE
pub last_first : (before after : List Step) (s : Step) → before ≡ after ++ s ∷ [] → reverse before ≡ s ∷ reverse after
last_first before after s is = ap reverse is ∙ reverse-append after (s ∷ [])

pub past_put : (m now : Nodes) (x : ℕ) (s : Step) (steps : List Step) → TakesBack m now x s.undo → past_of now (s ∷ steps) ≡ record { nodes = m; id = x } ∷ past_of m steps
past_put m now x s steps back = λ i. record { nodes = back.same i; id = back.whose i } ∷ past_of (back.same i) steps

pub undos_put : (m now : Nodes) (x : ℕ) (s : Step) (steps : List Step) → TakesBack m now x s.undo → AreUndoable m steps → AreUndoable now (s ∷ steps)
undos_put m now x s steps back able = (back.able, subst (λ n. AreUndoable n steps) (sym back.same) able)
