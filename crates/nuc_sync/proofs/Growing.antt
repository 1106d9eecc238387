-- A run makes the log no shorter, and a step makes it longer.
use Rattle.std.proofs.Common.{◌≡◌, ◌<◌, ◌≤◌, ◌+◌, ◌++◌, ℕ, List, [], ◌∷◌, Option, Some, None, ap, arith}
use Rattle.std.proofs.lemmas.List.Sums.{sum_by-append}
use Rattle.nuc_log.specs.declared.event.Event.{Event}
use Rattle.nuc_log.specs.declared.log.LogEntry.{LogEntry}
use Rattle.nuc_log.specs.declared.log.LogEntry.TheVariants as entry
use Rattle.nuc_log.specs.declared.reply.Reply.{Reply}
use Rattle.nuc_log.specs.declared.reply.Reply.TheVariants as reply
use Rattle.nuc_world.specs.Units.{units, units_by, units_of}
use Rattle.nuc_world.specs.World.{Steps, WorldData}
use Rattle.nuc_sync.specs.Asked.{Advances}
use Rattle.nuc_sync.specs.Runs.{Does, Moves, Runs, goes, stays}
use Rattle.nuc_sync.specs.Tasks.{Task, event_of, fails, restarts}
use Rattle.nuc_world.specs.declared.stop.TheConstants.{MOST_UNITS}

some_units : (r : Reply) → 0 < units_by r
some_units (reply.Listed changes items) = omega arith
some_units r = omega arith

entered_longer : (log now : List LogEntry) (e : Event) (r : Reply) → now ≡ log ++ entry.Stepped e r ∷ [] → units_of log < units_of now
entered_longer log now e r is =
    let same : units_of now ≡ units_of (log ++ entry.Stepped e r ∷ []) = ap units_of is in
    let sum : units_of (log ++ entry.Stepped e r ∷ []) ≡ units_of log + units_of (entry.Stepped e r ∷ []) = sum_by-append units log (entry.Stepped e r ∷ []) in
    let some : 0 < units_of (entry.Stepped e r ∷ []) = omega (arith, some_units r) in
    omega (arith, same, sum, some)

pub step_longer : (w : WorldData) (e : Event) (v : WorldData) → Steps w e v → units_of w.log < units_of v.log
step_longer w e v s = entered_longer w.log v.log e s.reply s.log

same_length : (log now : List LogEntry) → now ≡ log → units_of log ≤ units_of now
same_length log now is = let same : units_of now ≡ units_of log = ap units_of is in omega (arith, same)

does_longer : (t : Task) (o : Option Event) (w : WorldData) (asked : List Task) (v : WorldData) → Does t o w asked v → units_of w.log ≤ units_of v.log
does_longer t (Some e) w asked v is = let longer = entered_longer w.log v.log e is.reply is.log in omega (arith, longer)
does_longer (restarts client) None w asked v is = same_length w.log v.log (ap (λ (u : WorldData). u.log) is.stays)
does_longer (fails client call) None w asked v is = same_length w.log v.log is.log
does_longer t None w asked v is = absurd is

pub runs_longer : (w : WorldData) (ts : List Task) (v : WorldData) (left : List Task) → Runs w ts v left → units_of w.log ≤ units_of v.log
runs_longer w ts v left (stays x a) = omega arith
runs_longer w ts v left (goes x t a asked u y rest moves later) =
    let first = does_longer t (event_of t) w asked u moves in
    let after = runs_longer u (asked ++ a) v left later in
    omega (arith, first, after)

-- a step, and a run behind it
pub step_advances : (w : WorldData) (e : Event) (u : WorldData) → Steps w e u → units_of u.log ≤ MOST_UNITS
    → (ts : List Task) (v : WorldData) (left : List Task) → Runs u ts v left → Advances w v
step_advances w e u s few ts v left after =
    let first = step_longer w e u s in
    let more = runs_longer u ts v left after in
    record { room = omega (arith, first, few); longer = omega (arith, first, more) }
