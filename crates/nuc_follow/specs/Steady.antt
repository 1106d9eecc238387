-- A folder in memory none of whose calls fails.
use Rattle.std.specs.Prelude.{◌≡◌, [], Some}
use Rattle.nuc_filework.specs.Runs.{FolderView}
use Rattle.nuc_folder.specs.Beside.{Beside}
use Rattle.nuc_folder.specs.State.{FolderState, KeysBelow}
use Rattle.nuc_shelf.specs.Shelf.{IsShelf}

-- this is what is seen of it, and what it holds; no call is to fail, now or later
pub record IsSteady (v : FolderView) (s : FolderState) : Type 0 where
  pub told : v.told ≡ Some s
  pub shelf : IsShelf s
  pub below : KeysBelow v.next s
  pub beside : Beside
  pub has : v.beside ≡ Some beside
  pub none : beside.calls.failing ≡ []
