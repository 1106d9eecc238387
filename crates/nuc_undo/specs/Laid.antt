-- Nodes that are laid by.
use Rattle.std.specs.Prelude.{◌≡◌, ℕ, Option, None, Some}
use Rattle.std.specs.FinMap.{get, insert}
use Rattle.nuc_base.specs.Kinds.{FitsKind}
use Rattle.nuc_base.specs.Trees.{Nodes}
use Rattle.nuc_base.specs.declared.node.Node.{Node}

-- from a number to the node that lies under it
abbrev pub Laid : Type 0
Laid = Nodes

-- with the node, where there is one, in place of what stood at x
abbrev pub with_node : Nodes → ℕ → Option Node → Nodes
with_node m x None = m
with_node m x (Some n) = insert m x n

-- with the node under the number that it came from, where it came from one
abbrev pub given_back : Laid → Option ℕ → Option Node → Laid
given_back laid None put = laid
given_back laid (Some x) put = with_node laid x put

-- each has what its kind asks for
abbrev pub AllFit : Laid → Type 0
AllFit laid = (x : ℕ) (n : Node) → get laid x ≡ Some n → FitsKind n

-- what lies by in the first lies by in the second too
abbrev pub StillLaid : Laid → Laid → Type 0
StillLaid laid after = (x : ℕ) (n : Node) → get laid x ≡ Some n → get after x ≡ Some n
