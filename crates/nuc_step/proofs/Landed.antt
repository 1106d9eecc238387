-- What an operation makes of Local and Synced as it lands.
use Rattle.std.proofs.Common.{◌≡◌, ◌≢◌, ◌≤◌, ℕ, Bool, true, false, not, MatchBool, None, Some, length, sym, ap, subst, ◌∙◌, inl, inr, arith}
use Rattle.std.specs.FinMap.{get, remove}
use Rattle.nuc_base.specs.Changes.{changed}
use Rattle.nuc_base.specs.Legal.{LegalCut}
use Rattle.nuc_base.specs.Trees.{Nodes}
use Rattle.nuc_base.specs.declared.change.Change.{Change}
use Rattle.nuc_base.specs.declared.change.Change.TheVariants.{Keep, Put, Cut}
use Rattle.nuc_base.specs.declared.node.Node.{Node}
use Rattle.nuc_base.proofs.Maps.{after_put, get_cut_other, get_put_other, get_put_same, not_both}
use Rattle.nuc_replica.specs.Local.{ChangedLocal, LocalStates}
use Rattle.nuc_step.specs.Sound.{ChangedOne, ChangedSynced, HasOther, IsPut}
use Rattle.nuc_step.specs.Steps.{PutsBelow}
use Rattle.nuc_undo.specs.Laid.{Laid}
use Rattle.nuc_undo.specs.State.{UndoState, settled_of}
use Rattle.nuc_undo.specs.Steps.{Changed}

-- A SPLIT has another identity
pub with_other : (split : Bool) (x z : ℕ) (c : Change) → HasOther split x z c → split ≡ true → HasOther true x z c
with_other split x z c other is = subst (λ b. HasOther b x z c) is other

-- its own identity goes once the other has come, which wasn't there
module _ (m : Nodes) (x z : ℕ) (apart : x ≢ z) (absent : get m z ≡ None) where
  after : (c : Change) → IsPut c → LegalCut m x → ¬ (PutsBelow c x) → LegalCut (changed m z c) x
  after Keep is_put cut off = absurd is_put
  after (Put n) is_put cut off = record {
    there = (cut.there.0, get_put_other m z n x apart ∙ cut.there.1);
    empty = λ y k at child. elim (after_put m z n y k at) [
      | inl (e, same) ↦ off (sym (ap (λ (h : Node). h.place.parent.0) same) ∙ child)
      | inr (other, was) ↦ cut.empty y k was child
    ];
  }
  after Cut is_put cut off = absurd is_put

  before : (c : Change) → IsPut c → LegalCut (changed m z c) x → LegalCut m x
  before Keep is_put cut = absurd is_put
  before (Put n) is_put cut = record {
    there = (cut.there.0, sym (get_put_other m z n x apart) ∙ cut.there.1);
    empty = λ y k at child.
        cut.empty y k (get_put_other m z n y (λ e. not_both m z k absent (subst (λ v. get m v ≡ Some k) e at)) ∙ at) child;
  }
  before Cut is_put cut = absurd is_put

  beside : (c : Change) → IsPut c → LegalCut (changed m z c) x → ¬ (PutsBelow c x)
  beside Keep is_put cut below = below
  beside (Put n) is_put cut below = cut.empty z n (get_put_same m z n) below
  beside Cut is_put cut below = below

module _ (m : Nodes) (x z : ℕ) (c : Change) (other : HasOther true x z c) (absent : get m z ≡ None) where
  -- it may where it may as the tree is, and the other doesn't come below it
  pub go_together : (below : Bool) → LegalCut m x → MatchBool below (PutsBelow c x) (¬ (PutsBelow c x))
      → MatchBool (not below) (LegalCut (changed m z c) x) (¬ (LegalCut (changed m z c) x))
  go_together true cut is_below = λ legal. beside m x z other.1 absent c other.2 legal is_below
  go_together false cut off = after m x z other.1 absent c other.2 cut off

  pub go_alone : ¬ (LegalCut m x) → ¬ (LegalCut (changed m z c) x)
  go_alone stays legal = stays (before m x z other.1 absent c other.2 legal)

-- WHAT A PUT LEAVES of what is laid by: all but the node that is put
others_stay : (laid after : Laid) (n : ℕ) → after ≡ remove laid n → (i : ℕ) → i ≢ n → get after i ≡ get laid i
others_stay laid after n is i apart = ap (λ l. get l i) is ∙ get_cut_other laid n i apart

pub synced_put : (n x : ℕ) (s t : UndoState) → Changed s x t → settled_of t ≡ settled_of s → t.laid ≡ remove s.laid n → ChangedSynced n s t
synced_put n x s t change settled is = record {
  settled = settled;
  laid_then = change.laid_then;
  spare = change.spare;
  spare_then = let more = ap length change.past in let less = change.spare in omega arith;
  laid = others_stay s.laid t.laid n is;
}

pub local_put : (n cost : ℕ) (s t : LocalStates) → cost ≤ 2 → ChangedLocal s cost t → t.laid ≡ remove s.laid n → ChangedOne n s t
local_put n cost s t few change is = record {
  settled = change.settled;
  laid_then = change.laid_then;
  spare = let less = change.spare in omega arith;
  spare_then = change.spare_then;
  laid = others_stay s.laid t.laid n is;
}
