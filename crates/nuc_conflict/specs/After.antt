-- What the three trees are after a mend.
use Rattle.std.specs.Prelude.{◌≡◌, ℕ}
use Rattle.nuc_base.specs.Changes.{changed}
use Rattle.nuc_base.specs.Renamed.{IsRenamed}
use Rattle.nuc_base.specs.Trees.{Nodes}
use Rattle.nuc_base.specs.declared.change.Change.{Change}
use Rattle.nuc_base.specs.declared.change.Change.TheVariants.{Keep, Put, Cut}
use Rattle.nuc_class.specs.declared.op.Op.{Op}
use Rattle.nuc_class.specs.declared.op.Verb.{Verb}
use Rattle.nuc_class.specs.declared.op.Verb.TheVariants as verb

-- x comes in place of y, as the node that the change puts
abbrev pub ComesFor : Nodes → ℕ → ℕ → Change → Nodes → Type 0
ComesFor m y x (Put node) k = IsRenamed m y x node k
ComesFor m y x Keep k = ⊥
ComesFor m y x Cut k = ⊥

-- in Local, by the verb: a split changes its second identity, and its first goes; an adoption puts its first identity in
-- place of the second; each other mend changes its identity
abbrev pub IsLocalAfter : Verb → Op → Nodes → Nodes → Type 0
IsLocalAfter verb.Split op l k = k ≡ changed (changed l op.other.0 op.local) op.id.0 Cut
IsLocalAfter verb.Adopt op l k = ComesFor l op.other.0 op.id.0 op.local k
IsLocalAfter v op l k = k ≡ changed l op.id.0 op.local

-- and in all three
pub record AreAfter (r l s : Nodes) (op : Op) (after_r after_l after_s : Nodes) : Type 0 where
  pub remote : after_r ≡ changed r op.id.0 op.remote
  pub local : IsLocalAfter op.verb op l after_l
  pub synced : after_s ≡ changed s op.id.0 op.synced
