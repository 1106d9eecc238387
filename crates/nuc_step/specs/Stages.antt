-- Which operation stands at a stage.
use Rattle.std.specs.Prelude.{Option, None, Some}
use Rattle.nuc_class.specs.declared.op.Op.{Op}
use Rattle.nuc_flights.specs.Flights.{Flight, Stage, planned, started, taken}

abbrev pub if_planned : Stage → Op → Option Op
if_planned planned op = Some op
if_planned started op = None
if_planned (taken t) op = None

-- the operation, where it hasn't begun
abbrev pub planned_of : Option Flight → Option Op
planned_of None = None
planned_of (Some f) = if_planned f.stage f.op

abbrev pub if_started : Stage → Op → Option Op
if_started planned op = None
if_started started op = Some op
if_started (taken t) op = None

-- the operation, where it has begun and wasn't taken
abbrev pub started_of : Option Flight → Option Op
started_of None = None
started_of (Some f) = if_started f.stage f.op
