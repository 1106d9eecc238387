use Rattle.std.specs.Prelude.{◌≡◌, ◌≢◌, ℕ, None}
use Rattle.std.specs.FinMap.{get}
use Rattle.nuc_base.specs.Legal.{SameKind, IsFree}
use Rattle.nuc_base.specs.Trees.{Nodes, IsThere, IsFolder, IsUnder, StandsAt, HasChild}
use Rattle.nuc_base.specs.declared.node.Node.{Node}
use Rattle.nuc_base.specs.declared.tree_fault.CutFault.{CutFault}
use Rattle.nuc_base.specs.declared.tree_fault.CutFault.TheVariants as cut
use Rattle.nuc_base.specs.declared.tree_fault.PutFault.{PutFault}
use Rattle.nuc_base.specs.declared.tree_fault.PutFault.TheVariants as put

-- the first reason why x may not get this node: each has the reasons above it as not the case
abbrev pub PutFaulty : Nodes → ℕ → Node → PutFault → Type 0
PutFaulty m x node put.KindChanged = ¬ (SameKind m x node.kind)
PutFaulty m x node put.NoParent = SameKind m x node.kind × ¬ (IsFolder m node.place.parent.0)
PutFaulty m x node (put.Taken y) = SameKind m x node.kind × IsFolder m node.place.parent.0
    × (y.0 ≢ x) × StandsAt m y.0 node.place
PutFaulty m x node put.Cycle = SameKind m x node.kind × IsFolder m node.place.parent.0
    × IsFree m x node.place × IsUnder m node.place.parent.0 x
PutFaulty m x node put.Memory = Unit {0}

-- the first reason why the node of x may not go
abbrev pub CutFaulty : Nodes → ℕ → CutFault → Type 0
CutFaulty m x cut.Absent = get m x ≡ None
CutFaulty m x cut.NotEmpty = IsThere m x × HasChild m x
