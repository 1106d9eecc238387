-- How far the search for a blocker has come, on its way up from q.
use Rattle.std.specs.Prelude.{◌≡◌, ℕ, Option, Some, None}
use Rattle.std.specs.FinMap.{get}
use Rattle.nuc_base.specs.Trees.{Nodes, Alike, IsUnder}
use Rattle.nuc_base.specs.declared.node.Node.{Node}
use Rattle.nuc_base.specs.declared.node.NodeId.{NodeId}
use Rattle.nuc_conflict.specs.Remedies.{IsAstray}

-- of those that were passed on the way to `at`, m is the last that is astray
pub record IsHighest (r l : Nodes) (q at : ℕ) (m : NodeId) : Type 0 where
  pub node : Node
  pub above : IsUnder r q m.0
  pub there : get r m.0 ≡ Some node
  pub astray : IsAstray node (get l m.0)
  pub rest : Alike r l at → Alike r l node.place.parent.0

-- or none of them is
abbrev pub IsHighestSoFar : Nodes → Nodes → ℕ → ℕ → Option NodeId → Type 0
IsHighestSoFar r l q at (Some m) = IsHighest r l q at m
IsHighestSoFar r l q at None = Alike r l at → Alike r l q
