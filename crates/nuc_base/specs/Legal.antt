use Rattle.std.specs.Prelude.{◌≡◌, ℕ, Some}
use Rattle.std.specs.FinMap.{get}
use Rattle.nuc_base.specs.SamePlace.{SamePlace}
use Rattle.nuc_base.specs.Trees.{Nodes, IsThere, IsFolder, IsUnder, NoChild}
use Rattle.nuc_base.specs.declared.node.Kind.{Kind}
use Rattle.nuc_base.specs.declared.node.Node.{Node}
use Rattle.nuc_base.specs.declared.node.Place.{Place}

-- x is absent or of this kind
abbrev pub SameKind : Nodes → ℕ → Kind → Type 0
SameKind m x kind = (n : Node) → get m x ≡ Some n → n.kind ≡ kind

-- nobody but x has the place p
abbrev pub IsFree : Nodes → ℕ → Place → Type 0
IsFree m x p = (y : ℕ) (n : Node) → get m y ≡ Some n → SamePlace n.place p → y ≡ x

-- x may get this node
pub record LegalPut (m : Nodes) (x : ℕ) (node : Node) : Type 0 where
  pub kind : SameKind m x node.kind
  pub parent : IsFolder m node.place.parent.0
  pub free : IsFree m x node.place
  pub no_cycle : ¬ (IsUnder m node.place.parent.0 x)

-- the node of x may go
pub record LegalCut (m : Nodes) (x : ℕ) : Type 0 where
  pub there : IsThere m x
  pub empty : NoChild m x
