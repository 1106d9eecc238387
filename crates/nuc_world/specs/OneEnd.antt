-- An event leads to one reply and one world.
use Rattle.std.specs.Prelude.{◌≡◌, List}
use Rattle.nuc_log.specs.declared.event.Event.{Event}
use Rattle.nuc_log.specs.declared.log.LogEntry.{LogEntry}
use Rattle.nuc_log.specs.declared.reply.Reply.{Reply}
use Rattle.nuc_world.specs.Runs.{Reaches}
use Rattle.nuc_world.specs.State.{WorldState}
use Rattle.nuc_world.specs.Step.{IsStep}

-- a step from a world that a log leads to has one end
abbrev pub StepsHaveOneEnd : Type 0
StepsHaveOneEnd = (log : List LogEntry) (w v u : WorldState) (e : Event) (r q : Reply) → Reaches log w
    → IsStep log w e r v → IsStep log w e q u → (r ≡ q) × (v ≡ u)
