-- Which logs keep to the bounds of a script.
use Rattle.std.specs.Prelude.{All, List}
use Rattle.nuc_log.specs.declared.event.Event.{Event}
use Rattle.nuc_log.specs.declared.event.Event.TheVariants as event
use Rattle.nuc_log.specs.declared.log.LogEntry.{LogEntry}
use Rattle.nuc_log.specs.declared.log.LogEntry.TheVariants as entry
use Rattle.nuc_script.specs.Fitting.{FitsEdit, FitsWeb}

-- what is edited in a folder or on the web has names for its paths, and contents that a file can have
abbrev pub FitsEvent : Event → Type 0
FitsEvent (event.User client edit) = FitsEdit edit
FitsEvent (event.Web edit) = FitsWeb edit
FitsEvent _ = Unit {0}

abbrev pub FitsEntry : LogEntry → Type 0
FitsEntry (entry.Stepped e r) = FitsEvent e
FitsEntry _ = Unit {0}

abbrev pub KeepsToBounds : List LogEntry → Type 0
KeepsToBounds log = All FitsEntry log
