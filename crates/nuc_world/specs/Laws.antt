-- The laws of the world.
use Rattle.std.specs.Prelude.{List}
use Rattle.nuc_log.specs.declared.event.Event.{Event}
use Rattle.nuc_log.specs.declared.log.LogEntry.{LogEntry}
use Rattle.nuc_log.specs.declared.reply.Reply.{Reply}
use Rattle.nuc_world.specs.Form.{IsWorld}
use Rattle.nuc_world.specs.State.{WorldState}
use Rattle.nuc_world.specs.Step.{IsStep}

-- each step keeps a world
abbrev pub StepsKeepWorlds : Type 0
StepsKeepWorlds = (log : List LogEntry) (w v : WorldState) (e : Event) (r : Reply) → IsWorld w → IsStep log w e r v → IsWorld v
