-- An identity of a tree gets another number.
use Rattle.std.specs.Prelude.{◌≡◌, ◌≢◌, ◌==◌, ℕ, cond, Some, None, option_map}
use Rattle.std.specs.FinMap.{get}
use Rattle.nuc_base.specs.Trees.{Nodes}
use Rattle.nuc_base.specs.declared.node.Node.{Node}

-- the node with x as its parent
abbrev pub with_parent : ℕ → Node → Node
with_parent x n = record n { place = record { parent = record { 0 = x }; name = n.place.name } }

-- the node with x as its parent where that was y
abbrev pub child_renamed : ℕ → ℕ → Node → Node
child_renamed y x n = cond (n.place.parent.0 == y) (with_parent x n) n

-- k is m with this node at x, in place of the one at y, and with the children of y under x
pub record IsRenamed (m : Nodes) (y x : ℕ) (node : Node) (k : Nodes) : Type 0 where
  pub came : get k x ≡ Some node
  pub gone : get k y ≡ None
  pub others : (w : ℕ) → w ≢ x → w ≢ y → get k w ≡ option_map (child_renamed y x) (get m w)
