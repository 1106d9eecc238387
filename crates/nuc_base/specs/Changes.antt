-- What changes make of a tree, which are legal, and which don't meet.
use Rattle.std.specs.Prelude.{◌≡◌, ◌≢◌, ℕ, Option, Some, None}
use Rattle.std.specs.FinMap.{get, insert, remove}
use Rattle.nuc_base.specs.Kinds.{FitsKind}
use Rattle.nuc_base.specs.Legal.{SameKind, LegalPut, LegalCut}
use Rattle.nuc_base.specs.SamePlace.{SamePlace}
use Rattle.nuc_base.specs.Trees.{Nodes, IsUnder}
use Rattle.nuc_base.specs.declared.change.Change.{Change}
use Rattle.nuc_base.specs.declared.change.Change.TheVariants.{Keep, Put, Cut}
use Rattle.nuc_base.specs.declared.node.Node.{Node}

-- the node after a change, of the one before
abbrev pub node_after : Change → Option Node → Option Node
node_after Keep before = before
node_after (Put node) before = Some node
node_after Cut before = None

-- the tree after a change of x
abbrev pub changed : Nodes → ℕ → Change → Nodes
changed m x Keep = m
changed m x (Put node) = insert m x node
changed m x Cut = remove m x

-- x may be changed so
abbrev pub IsLegal : Nodes → ℕ → Change → Type 0
IsLegal m x Keep = Unit {0}
IsLegal m x (Put node) = LegalPut m x node
IsLegal m x Cut = LegalCut m x

-- a node that is put fits its kind
abbrev pub FitsChange : Change → Type 0
FitsChange Keep = Unit {0}
FitsChange (Put node) = FitsKind node
FitsChange Cut = Unit {0}

-- a node that is put at x has the kind of the tree's node there
abbrev pub KeepsKind : Nodes → ℕ → Change → Type 0
KeepsKind m x Keep = Unit {0}
KeepsKind m x (Put node) = SameKind m x node.kind
KeepsKind m x Cut = Unit {0}

-- the change takes x away from its parent
abbrev pub Moves : Nodes → ℕ → Change → Type 0
Moves m x Keep = ⊥
Moves m x (Put node) = (n : Node) × (get m x ≡ Some n) × (n.place.parent.0 ≢ node.place.parent.0)
Moves m x Cut = Unit {0}

-- where the first change moves x, the second puts nothing below x
abbrev pub Spares : Nodes → ℕ → Change → Change → Type 0
Spares m x c Keep = Unit {0}
Spares m x c (Put node) = Moves m x c → ¬ (IsUnder m node.place.parent.0 x)
Spares m x c Cut = Unit {0}

-- the two put nothing at one place
abbrev pub OtherPlaces : Change → Change → Type 0
OtherPlaces (Put n) (Put k) = ¬ (SamePlace n.place k.place)
OtherPlaces c d = Unit {0}

-- the changes of x and y don't meet
pub record Apart (m : Nodes) (x : ℕ) (c : Change) (y : ℕ) (d : Change) : Type 0 where
  pub places : OtherPlaces c d
  pub first : Spares m x c d
  pub second : Spares m y d c
