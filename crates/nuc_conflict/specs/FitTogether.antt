-- What the three trees of a client owe each other.
use Rattle.std.specs.Prelude.{◌≡◌, ◌<◌, ℕ, Some}
use Rattle.std.specs.FinMap.{get}
use Rattle.nuc_base.specs.Trees.{Nodes, OneKind, WellFormed}
use Rattle.nuc_base.specs.declared.node.Node.{Node}

-- each is well formed, and an identity has one kind in all of them
pub record FitTogether (r l s : Nodes) : Type 0 where
  pub remote : WellFormed r
  pub local : WellFormed l
  pub synced : WellFormed s
  pub remote_local : OneKind r l
  pub remote_synced : OneKind r s
  pub local_synced : OneKind l s

-- every identity of the tree is below `next`
abbrev pub IsBelow : Nodes → ℕ → Type 0
IsBelow m next = (x : ℕ) (n : Node) → get m x ≡ Some n → x < next

-- they fit together, and every identity in them is below `next`
pub record FitBelow (r l s : Nodes) (next : ℕ) : Type 0 where
  pub fit : FitTogether r l s
  pub remote : IsBelow r next
  pub local : IsBelow l next
  pub synced : IsBelow s next
