-- How long a log is: an entry is one unit, and one more for each item of a listing.
use Rattle.std.specs.Prelude.{◌<◌, ◌≤◌, ◌+◌, ℕ, List, length, sum_by}
use Rattle.nuc_log.specs.declared.log.LogEntry.{LogEntry}
use Rattle.nuc_log.specs.declared.log.LogEntry.TheVariants as entry
use Rattle.nuc_log.specs.declared.reply.Reply.{Reply}
use Rattle.nuc_log.specs.declared.reply.Reply.TheVariants as reply
use Rattle.nuc_world.specs.declared.stop.Stop.{Stop}
use Rattle.nuc_world.specs.declared.stop.Stop.TheVariants as stop
use Rattle.nuc_world.specs.declared.stop.TheConstants.{MOST_UNITS}

abbrev pub units_by : Reply → ℕ
units_by (reply.Listed changes items) = 1 + length items
units_by _ = 1

abbrev pub units : LogEntry → ℕ
units (entry.Opened clients kept) = 1
units (entry.Stepped e r) = units_by r

abbrev pub units_of : List LogEntry → ℕ
units_of log = sum_by units log

-- the log takes one unit more
abbrev pub HasRoom : List LogEntry → Type 0
HasRoom log = units_of log + 1 ≤ MOST_UNITS

-- why a log of so many units doesn't take a reply
abbrev pub Refuses : ℕ → Reply → Stop → Type 0
Refuses taken r stop.LogFull = MOST_UNITS < taken + units_by r
Refuses taken r stop.Memory = Unit {0}
Refuses taken r why = ⊥
