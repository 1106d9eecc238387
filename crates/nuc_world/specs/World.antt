-- A world as a caller sees it: what there is, and the log that led to it.
use Rattle.std.specs.Prelude.{◌≡◌, ◌<◌, ◌≤◌, ◌+◌, ℕ, List, [], ◌∷◌, ◌++◌, Some, false, length}
use Rattle.nuc_folder.specs.Listing.{IsListing}
use Rattle.nuc_folder.specs.declared.item.Item.{Item}
use Rattle.nuc_folder.specs.declared.listed.TheConstants.{MOST_ITEMS}
use Rattle.nuc_log.specs.declared.event.Event.{Event}
use Rattle.nuc_log.specs.declared.event.Event.TheVariants as event
use Rattle.nuc_log.specs.declared.log.LogEntry.{LogEntry}
use Rattle.nuc_log.specs.declared.log.LogEntry.TheVariants as entry
use Rattle.nuc_log.specs.declared.reply.Reply.{Reply}
use Rattle.nuc_world.specs.Runs.{IsUnlisted, opening}
use Rattle.nuc_world.specs.State.{MemberState, WorldState, fresh, is_due, member_of}
use Rattle.nuc_world.specs.Step.{IsStep, client_of}
use Rattle.nuc_world.specs.Units.{HasRoom, units_of}
use Rattle.nuc_world.specs.Unlisted.{HasMore}
use Rattle.nuc_world.specs.declared.stop.Stop.{Stop}
use Rattle.nuc_world.specs.declared.stop.Stop.TheVariants as stop
use Rattle.nuc_world.specs.declared.stop.TheConstants.{MOST_UNITS}

pub record WorldData : Type 0 where
  pub now : WorldState
  pub log : List LogEntry

-- a world of so many clients that was just opened
abbrev pub opened : ℕ → WorldData
opened clients = record { now = fresh clients; log = opening clients ∷ [] }

-- a step was taken, and entered
pub record Steps (w : WorldData) (e : Event) (v : WorldData) : Type 0 where
  pub reply : Reply
  pub step : IsStep w.log w.now e reply v.now
  pub log : v.log ≡ w.log ++ entry.Stepped e reply ∷ []

-- WHY A STEP ISN'T TAKEN
-- the event is the web's, or that of a client of the world
abbrev pub is_of : Event → WorldState → Type 0
is_of (event.Web edit) w = Unit {0}
is_of e w = (m : MemberState) × (member_of (client_of e) w.members ≡ Some m)

-- a listing of the folder that is asked for has these items
pub record WouldList (w : WorldState) (e : Event) (items : List Item) : Type 0 where
  pub client : ℕ
  pub member : MemberState
  pub lists : e ≡ event.List client
  pub was : member_of client w.members ≡ Some member
  pub lasts : is_due member.due ≡ false
  pub are : IsListing member.folder.held items
  pub few : length items ≤ MOST_ITEMS

-- the step takes so many units at least
pub data Costs (w : WorldState) (e : Event) : ℕ → Type 0 where
  one : Costs w e 1
  listing : (items : List Item) → WouldList w e items → Costs w e (1 + length items)

pub record HasNoRoom (w : WorldData) (e : Event) : Type 0 where
  pub cost : ℕ
  pub costs : Costs w.now e cost
  pub passes : MOST_UNITS < units_of w.log + cost

-- a listing was asked for, and its folder failed or holds too much
pub record FailsToList (w : WorldData) (e : Event) (v : WorldData) : Type 0 where
  pub client : ℕ
  pub lists : e ≡ event.List client
  pub unlisted : IsUnlisted client w.now v.now
  pub log : v.log ≡ w.log

pub record ListsTooMuch (w : WorldState) (e : Event) (n : ℕ) : Type 0 where
  pub client : ℕ
  pub member : MemberState
  pub lists : e ≡ event.List client
  pub was : member_of client w.members ≡ Some member
  pub lasts : is_due member.due ≡ false
  pub more : HasMore member n

-- no two of these hold of one step, but that memory may be wanted at any time; nothing is changed then but a folder's count
-- of calls, where it failed
abbrev pub Stops : WorldData → Event → Stop → WorldData → Type 0
Stops w e stop.NoClient v = ¬ (is_of e w.now) × (v ≡ w)
Stops w e stop.LogFull v = is_of e w.now × HasNoRoom w e × (v ≡ w)
Stops w e stop.FolderFault v = HasRoom w.log × FailsToList w e v
Stops w e (stop.TooLong n) v = HasRoom w.log × ListsTooMuch w.now e n × (v ≡ w)
Stops w e stop.Memory v = v ≡ w
