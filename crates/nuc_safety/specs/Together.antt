-- Which two operations may be in flight at once.
use Rattle.std.specs.Prelude.{◌≢◌}
use Rattle.nuc_base.specs.Changes.{Apart}
use Rattle.nuc_base.specs.Trees.{Nodes}
use Rattle.nuc_class.specs.declared.op.Op.{Op}

-- they change different identities, and in each tree their changes don't meet; a tree that one of them keeps is no matter
pub record Together (r l s : Nodes) (a b : Op) : Type 0 where
  pub ids : a.id.0 ≢ b.id.0
  pub remote : Apart r a.id.0 a.remote b.id.0 b.remote
  pub local : Apart l a.id.0 a.local b.id.0 b.local
  pub synced : Apart s a.id.0 a.synced b.id.0 b.synced
