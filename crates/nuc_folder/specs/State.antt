-- What a folder holds.
use Rattle.std.specs.Prelude.{◌≡◌, ◌<◌, ℕ, Option, None, Some}
use Rattle.std.specs.FinMap.{get}
use Rattle.nuc_base.specs.declared.node.Node.{Node}
use Rattle.nuc_base.specs.declared.node.Place.{Place}
use Rattle.nuc_shelf.specs.Shelf.{ShelfState, IsShelf}
use Rattle.nuc_folder.specs.declared.key_place.KeyPlace.{KeyPlace}

-- its files and folders, whose keys are the identities of a tree, and the bytes of the files: what a shelf holds
abbrev pub FolderState : Type 0
FolderState = ShelfState

-- the place in the tree
abbrev pub place_of : KeyPlace → Place
place_of p = record { parent = record { 0 = p.parent.0 }; name = p.name }

-- each key is below n
abbrev pub KeysBelow : ℕ → FolderState → Type 0
KeysBelow n s = (x : ℕ) (k : Node) → get s.tree x ≡ Some k → x < n

-- where the folder tells what it holds, that is well formed, with keys below n
abbrev pub IsTold : ℕ → Option FolderState → Type 0
IsTold n None = Unit {0}
IsTold n (Some s) = IsShelf s × KeysBelow n s
