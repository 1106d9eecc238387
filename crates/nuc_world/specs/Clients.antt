-- Which numbers are those of clients.
use Rattle.std.specs.Prelude.{◌≡◌, ◌<◌, ◌⊎◌, ℕ, None}
use Rattle.nuc_world.specs.State.{WorldState, member_of}
use Rattle.nuc_world.specs.declared.stop.Stop.{Stop}
use Rattle.nuc_world.specs.declared.stop.Stop.TheVariants as stop

-- clients count from 1
abbrev pub IsNoClient : ℕ → ℕ → Type 0
IsNoClient client count = (client ≡ 0) ⊎ (count < client)

-- why a call of a client's folder isn't told to fail
abbrev pub MissesFailure : ℕ → WorldState → Stop → Type 0
MissesFailure client w stop.NoClient = member_of client w.members ≡ None
MissesFailure client w stop.Memory = Unit {0}
MissesFailure client w why = ⊥
