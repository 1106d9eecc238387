-- How tasks are carried out in a world.
use Rattle.std.specs.Prelude.{◌≡◌, ◌<◌, ℕ, List, [], ◌∷◌, ◌++◌, Option, None, Some}
use Rattle.nuc_flights.specs.Flights.{Flight}
use Rattle.nuc_log.specs.declared.event.Event.{Event}
use Rattle.nuc_log.specs.declared.event.Event.TheVariants as event
use Rattle.nuc_log.specs.declared.log.LogEntry.TheVariants as entry
use Rattle.nuc_log.specs.declared.reply.Reply.{Reply}
use Rattle.nuc_world.specs.Runs.{IsRecounted}
use Rattle.nuc_world.specs.State.{MemberState, member_of, with_failure}
use Rattle.nuc_world.specs.Step.{IsStep}
use Rattle.nuc_world.specs.World.{Stops, WorldData}
use Rattle.nuc_world.specs.declared.stop.Stop.{Stop}
use Rattle.nuc_world.specs.declared.stop.Stop.TheVariants as stop
use Rattle.nuc_sync.specs.Tasks.{Task, event_of, fails, more, once, restarts}

-- a restart only where something is in flight
abbrev pub restart_of : ℕ → List Flight → List Task
restart_of client [] = []
restart_of client (f ∷ fs) = once (event.Restart client) ∷ []

-- a task's event is answered, and entered
pub record Answers (t : Task) (e : Event) (w : WorldData) (asked : List Task) (v : WorldData) : Type 0 where
  pub reply : Reply
  pub step : IsStep w.log w.now e reply v.now
  pub log : v.log ≡ w.log ++ entry.Stepped e reply ∷ []
  pub asks : asked ≡ more t reply

pub record Restarts (client : ℕ) (w : WorldData) (asked : List Task) (v : WorldData) : Type 0 where
  pub member : MemberState
  pub was : member_of client w.now.members ≡ Some member
  pub asks : asked ≡ restart_of client member.client.flights
  pub stays : v ≡ w

pub record Recounts (client call : ℕ) (w : WorldData) (asked : List Task) (v : WorldData) : Type 0 where
  pub some : 0 < call
  pub counted : IsRecounted client (with_failure call) w.now v.now
  pub log : v.log ≡ w.log
  pub asks : asked ≡ []

abbrev pub Does : Task → Option Event → WorldData → List Task → WorldData → Type 0
Does t (Some e) w asked v = Answers t e w asked v
Does (restarts client) None w asked v = Restarts client w asked v
Does (fails client call) None w asked v = Recounts client call w asked v
Does t None w asked v = ⊥

-- a task is taken up: it leads to another world, and asks for these tasks
abbrev pub Moves : Task → WorldData → List Task → WorldData → Type 0
Moves t w asked v = Does t (event_of t) w asked v

-- from one world to another by the first of the tasks; what each asks for comes before the rest. These are left
pub data Runs : WorldData → List Task → WorldData → List Task → Type 0 where
  stays : (w : WorldData) (ts : List Task) → Runs w ts w ts
  goes : (w : WorldData) (t : Task) (ts asked : List Task) (u v : WorldData) (left : List Task)
      → Moves t w asked u → Runs u (asked ++ ts) v left → Runs w (t ∷ ts) v left

-- WHY A TASK ISN'T TAKEN UP
abbrev pub Refuses : Task → Option Event → WorldData → Stop → WorldData → Type 0
Refuses t (Some e) w why v = Stops w e why v
Refuses t None w stop.Memory v = v ≡ w
Refuses t None w why v = ⊥

-- by the first of the tasks left; memory may be wanted where none is left too
abbrev pub StopsAt : List Task → WorldData → Stop → WorldData → Type 0
StopsAt (t ∷ ts) w why v = Refuses t (event_of t) w why v
StopsAt [] w stop.Memory v = v ≡ w
StopsAt [] w why v = ⊥

-- the tasks are carried out up to one that isn't taken up
pub record Breaks (w : WorldData) (ts : List Task) (why : Stop) (v : WorldData) : Type 0 where
  pub before : WorldData
  pub left : List Task
  pub runs : Runs w ts before left
  pub stops : StopsAt left before why v
