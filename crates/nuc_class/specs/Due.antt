-- Which operations can be carried out as the trees are.
use Rattle.std.specs.Prelude.{◌≡◌, ℕ, Bool, Some}
use Rattle.std.specs.FinMap.{get}
use Rattle.nuc_base.specs.Changes.{IsLegal, FitsChange}
use Rattle.nuc_base.specs.Trees.{Nodes}
use Rattle.nuc_class.specs.Op.{operation}
use Rattle.nuc_class.specs.Wishes.{IsWish}
use Rattle.nuc_class.specs.declared.op.Op.{Op}
use Rattle.nuc_class.specs.declared.wishes.Wish.{Wish}

-- the operation's change is legal in each tree
pub record IsLegalOp (r l s : Nodes) (op : Op) : Type 0 where
  pub remote : IsLegal r op.id.0 op.remote
  pub local : IsLegal l op.id.0 op.local
  pub synced : IsLegal s op.id.0 op.synced

-- each node that it puts fits its kind
pub record FitsOp (op : Op) : Type 0 where
  pub remote : FitsChange op.remote
  pub local : FitsChange op.local
  pub synced : FitsChange op.synced

-- x wishes the operation, and its change is legal in each tree
pub record IsDue (same : ℕ → ℕ → Bool) (r l s : Nodes) (x : ℕ) (op : Op) : Type 0 where
  pub wish : Wish
  pub wished : IsWish same r l s x wish
  pub planned : operation same wish x (get r x) (get l x) (get s x) ≡ Some op
  pub legal : IsLegalOp r l s op

-- no operation is due at x
abbrev pub NothingDue : (ℕ → ℕ → Bool) → Nodes → Nodes → Nodes → ℕ → Type 0
NothingDue same r l s x = (op : Op) → ¬ (IsDue same r l s x op)
