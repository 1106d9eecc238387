-- What holds at every point of a log.
use Rattle.std.specs.Prelude.{◌≡◌, ◌++◌, List}
use Rattle.nuc_log.specs.declared.log.LogEntry.{LogEntry}
use Rattle.nuc_world.specs.Accounted.{AllAccounted}
use Rattle.nuc_world.specs.Form.{IsWorld}
use Rattle.nuc_world.specs.Runs.{Reaches}
use Rattle.nuc_world.specs.State.{WorldState}

-- each client's three trees are well formed, its Remote is the server's tree at its cursor, an identity has one kind
-- everywhere, and each version that a file has was put (IsWorld); and no content is lost
pub record IsSound (w : WorldState) : Type 0 where
  pub world : IsWorld w
  pub accounted : AllAccounted w

-- what a first part of the log leads to is sound, whichever part it is
abbrev pub IsSoundThroughout : List LogEntry → Type 0
IsSoundThroughout log = (es rest : List LogEntry) (w : WorldState) → log ≡ es ++ rest → Reaches es w → IsSound w
