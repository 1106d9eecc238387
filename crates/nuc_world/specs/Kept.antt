-- What a world in code stands for, and what is always so of it.
use Rattle.std.specs.Prelude.{◌≡◌, List}
use Rattle.nuc_log.specs.declared.log.LogEntry.{LogEntry}
use Rattle.nuc_world.specs.Parts.{shared_now, shared_then}
use Rattle.nuc_world.specs.Runs.{Reaches}
use Rattle.nuc_world.specs.State.{MemberState, WorldState}
use Rattle.nuc_world.specs.World.{WorldData}
use Rattle.nuc_world.specs.declared.shared.Shared.{Shared}

abbrev pub state_of : Shared → List MemberState → WorldState
state_of shared members = record { shared = shared_now shared; members = members }

abbrev pub world_of : Shared → List MemberState → List LogEntry → WorldData
world_of shared members log = record { now = state_of shared members; log = log }

-- the log led to what there is, and this is what going back leads to
pub record IsKept (shared : Shared) (members settled : List MemberState) (log : List LogEntry) : Type 0 where
  pub reached : Reaches log (state_of shared members)
  pub shared_settled : shared_then shared ≡ shared_now shared
  pub members_settled : settled ≡ members
