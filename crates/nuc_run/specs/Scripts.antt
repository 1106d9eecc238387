-- What the commands of a script ask for, and the logs that they give.
use Rattle.std.specs.Prelude.{◌≡◌, ◌<◌, ◌≤◌, ℕ, List, [], ◌∷◌}
use Rattle.std.specs.List.{flat_map}
use Rattle.nuc_log.specs.declared.event.Event.TheVariants as event
use Rattle.nuc_log.specs.declared.log.LogEntry.{LogEntry}
use Rattle.nuc_script.specs.Commands.{clients_of}
use Rattle.nuc_script.specs.declared.command.Command.{Command}
use Rattle.nuc_script.specs.declared.command.Command.TheVariants as command
use Rattle.nuc_sync.specs.Runs.{Breaks, Runs}
use Rattle.nuc_sync.specs.Tasks.{Task, fails, once, sync_tasks}
use Rattle.nuc_world.specs.Units.{units_of}
use Rattle.nuc_world.specs.World.{WorldData, opened}
use Rattle.nuc_world.specs.declared.stop.Stop.{Stop}
use Rattle.nuc_world.specs.declared.stop.TheConstants.{MOST_UNITS}

-- clients count from 1
abbrev pub IsClientOf : ℕ → ℕ → Type 0
IsClientOf clients client = (0 < client) × (client ≤ clients)

abbrev pub tasks_of : Command → List Task
tasks_of (command.Clients count) = []
tasks_of (command.User client edit) = once (event.User client edit) ∷ []
tasks_of (command.Web edit) = once (event.Web edit) ∷ []
tasks_of (command.List client) = once (event.List client) ∷ []
tasks_of (command.Scan client) = once (event.Scan client) ∷ []
tasks_of (command.Watch client) = once (event.Watch client) ∷ []
tasks_of (command.Pull client) = once (event.Pull client) ∷ []
tasks_of (command.Plan client) = once (event.Plan client) ∷ []
tasks_of (command.Restart client) = once (event.Restart client) ∷ []
tasks_of (command.Start client number) = once (event.Start client number) ∷ []
tasks_of (command.Take client number) = once (event.Take client number) ∷ []
tasks_of (command.Done client number) = once (event.Done client number) ∷ []
tasks_of (command.Sync client backwards) = sync_tasks client backwards
tasks_of (command.Fail client call) = fails client call ∷ []

-- a command that asks for one step
abbrev pub IsEvent : Command → Type 0
IsEvent (command.Clients count) = ⊥
IsEvent (command.Sync client backwards) = ⊥
IsEvent (command.Fail client call) = ⊥
IsEvent _ = Unit {0}

-- a command of one of so many clients, or of none
abbrev pub IsOf : ℕ → Command → Type 0
IsOf clients (command.Clients count) = Unit {0}
IsOf clients (command.User client edit) = IsClientOf clients client
IsOf clients (command.Web edit) = Unit {0}
IsOf clients (command.List client) = IsClientOf clients client
IsOf clients (command.Scan client) = IsClientOf clients client
IsOf clients (command.Watch client) = IsClientOf clients client
IsOf clients (command.Pull client) = IsClientOf clients client
IsOf clients (command.Plan client) = IsClientOf clients client
IsOf clients (command.Restart client) = IsClientOf clients client
IsOf clients (command.Start client number) = IsClientOf clients client
IsOf clients (command.Take client number) = IsClientOf clients client
IsOf clients (command.Done client number) = IsClientOf clients client
IsOf clients (command.Sync client backwards) = IsClientOf clients client
IsOf clients (command.Fail client call) = IsClientOf clients client × (0 < call)

abbrev pub script_tasks : List Command → List Task
script_tasks cs = flat_map tasks_of cs

-- no log grows past that
abbrev pub KeepsToLimit : List LogEntry → Type 0
KeepsToLimit log = units_of log ≤ MOST_UNITS

-- THE LOGS OF A SCRIPT begin with the opening of a world of its clients. The whole one has all that the commands ask for
pub record IsWholeLog (cs : List Command) (log : List LogEntry) : Type 0 where
  pub end : WorldData
  pub runs : Runs (opened (clients_of cs)) (script_tasks cs) end []
  pub log_is : log ≡ end.log
  pub few : KeepsToLimit log

-- one that ended before a step that wasn't taken, and why it wasn't
pub record IsCutLog (cs : List Command) (why : Stop) (log : List LogEntry) : Type 0 where
  pub end : WorldData
  pub breaks : Breaks (opened (clients_of cs)) (script_tasks cs) why end
  pub log_is : log ≡ end.log
  pub few : KeepsToLimit log
