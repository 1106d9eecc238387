-- How an identity of a tree gets another number, step by step.
use Rattle.std.specs.Prelude.{◌≡◌, ◌<◌, ◌≤◌, ◌+◌, ℕ, List, map, length, Option, None, Some, IfSome}
use Rattle.std.specs.FinMap.{get}
use Rattle.nuc_base.specs.Kinds.{FitsKind}
use Rattle.nuc_base.specs.Renamed.{with_parent}
use Rattle.nuc_base.specs.SamePlace.{SamePlace}
use Rattle.nuc_base.specs.Trees.{Nodes, IsVacant, children}
use Rattle.nuc_base.specs.declared.change.Change.{Change}
use Rattle.nuc_base.specs.declared.change.Change.TheVariants.{Keep, Put}
use Rattle.nuc_base.specs.declared.node.Node.{Node}
use Rattle.nuc_base.specs.declared.node.Place.{Place}
use Rattle.nuc_replica.specs.declared.renaming.Moved.{Moved}
use Rattle.nuc_replica.specs.declared.renaming.Renaming.{Renaming}
use Rattle.nuc_undo.specs.State.{UndoState, settled_of}

-- a node of the place and the kind of the one at y, so that it can stand there under another number
pub record StandsIn (m : Nodes) (y : ℕ) (node : Node) : Type 0 where
  pub own : Node
  pub there : get m y ≡ Some own
  pub place : SamePlace node.place own.place
  pub kind : node.kind ≡ own.kind

-- the place of this name beside the node
abbrev pub beside : Node → List ℕ → Place
beside node name = record { parent = node.place.parent; name = name }

-- x may come in place of y: x isn't there, the node can stand in for that at y, and nobody has the place beside it
pub record CanRename (m : Nodes) (y x : ℕ) (node : Node) (aside : List ℕ) : Type 0 where
  pub some : 0 < x
  pub absent : get m x ≡ None
  pub fits : FitsKind node
  pub stands : StandsIn m y node
  pub vacant : IsVacant m (beside node aside)

-- a child comes below x
abbrev pub move_of : ℕ → Option Node → Change
move_of x None = Keep
move_of x (Some n) = Put (with_parent x n)

abbrev pub moves_of : Nodes → ℕ → ℕ → List (ℕ × Change)
moves_of m y x = map (λ w. (w, move_of x (get m w))) (children m y)

abbrev pub change_of : Moved → ℕ × Change
change_of moved = (moved.id.0, Put moved.node)

-- the nodes that are to change where x comes in place of y, which goes aside under this name
pub record IsRenaming (m : Nodes) (y x : ℕ) (name : List ℕ) (nodes : Renaming) : Type 0 where
  pub aside : IfSome (get m y) (λ own. nodes.aside ≡ record own { place = beside own name })
  pub children : map change_of nodes.children.items ≡ moves_of m y x

pub record IsReady (m : Nodes) (y x : ℕ) (node : Node) (copies : Renaming) : Type 0 where
  pub name : List ℕ
  pub can : CanRename m y x node name
  pub nodes : IsRenaming m y x name copies

-- so many changes were made: they lead back to the same, nothing that is laid by was touched, and each took at most one of
-- the room, which going back gives again
pub record Rewritten (cost : ℕ) (s t : UndoState) : Type 0 where
  pub settled : settled_of t ≡ settled_of s
  pub laid : t.laid ≡ s.laid
  pub laid_then : t.laid_then ≡ s.laid_then
  pub spare : s.spare ≤ t.spare + cost
  pub spare_then : s.spare + length s.past ≤ t.spare + length t.past
