-- What a turn of a client needs, and why there may be none.
use Rattle.std.specs.Prelude.{◌≡◌, ◌<◌, ◌≤◌, ◌+◌, ◌++◌, ◌∷◌, ℕ, List, [], Option, None, Some, false, length}
use Rattle.nuc_folder.specs.Listing.{IsListing}
use Rattle.nuc_folder.specs.declared.item.Item.{Item}
use Rattle.nuc_folder.specs.declared.listed.TheConstants.{MOST_ITEMS}
use Rattle.nuc_log.specs.declared.event.Event.{Event}
use Rattle.nuc_log.specs.declared.event.Event.TheVariants as event
use Rattle.nuc_log.specs.declared.log.LogEntry.{LogEntry}
use Rattle.nuc_log.specs.declared.log.LogEntry.TheVariants as entry
use Rattle.nuc_log.specs.declared.reply.Reply.{Reply}
use Rattle.nuc_replica.specs.Following.{IsAt}
use Rattle.nuc_server.specs.WebEdits.{WebState}
use Rattle.nuc_step.specs.Planning.{CanPlan}
use Rattle.nuc_step.specs.Watching.{CanWatch}
use Rattle.nuc_world.specs.Form.{CanTake}
use Rattle.nuc_world.specs.State.{MemberState, Turn, is_due}
use Rattle.nuc_world.specs.Step.{Does, client_of}
use Rattle.nuc_world.specs.Units.{HasRoom, units_of}
use Rattle.nuc_world.specs.Unlisted.{HasMore, Unlists}
use Rattle.nuc_world.specs.declared.observing.ListFault.{ListFault}
use Rattle.nuc_world.specs.declared.observing.ListFault.TheVariants as fault
use Rattle.nuc_world.specs.declared.stop.Stop.{Stop}
use Rattle.nuc_world.specs.declared.stop.Stop.TheVariants as stop
use Rattle.nuc_world.specs.declared.stop.TheConstants.{MOST_UNITS}

-- the client of an event, where it isn't the web's
abbrev pub client_in : Event → Option ℕ
client_in (event.Web edit) = None
client_in e = Some (client_of e)

-- a member of a world can plan, watch, and take each operation of its client
pub record CanTurn (s : WebState) (m : MemberState) : Type 0 where
  pub plans : CanPlan m.client s.ids.next_id
  pub watches : CanWatch m.client s.edits s.ids
  pub takes : (n : ℕ) → CanTake n s.entries m.client
  pub at : IsAt s.entries m.client.remote

-- only a listing fails otherwise than for want of memory; the call of its folder is counted then, and nothing else changes
abbrev pub MissesTurn : Event → ListFault → Turn → Turn → Type 0
MissesTurn (event.List c) why t u = Unlists why t.member u.member × (u.shared ≡ t.shared)
MissesTurn e why t u = why ≡ fault.Memory

-- A STEP OF A MEMBER THAT ISN'T TAKEN, behind these entries
-- it takes so many units at least
pub data CostsTurn (e : Event) (m : MemberState) : ℕ → Type 0 where
  one : CostsTurn e m 1
  listing : (c : ℕ) (items : List Item) → e ≡ event.List c → is_due m.due ≡ false → IsListing m.folder.held items → length items ≤ MOST_ITEMS
      → CostsTurn e m (1 + length items)

pub record HasNoTurn (log : List LogEntry) (e : Event) (m : MemberState) : Type 0 where
  pub cost : ℕ
  pub costs : CostsTurn e m cost
  pub passes : MOST_UNITS < units_of log + cost

abbrev pub IsList : Event → Type 0
IsList (event.List c) = Unit {0}
IsList e = ⊥

abbrev pub StopsTurn : List LogEntry → Event → Stop → Turn → Turn → Type 0
StopsTurn log e stop.NoClient t u = ⊥
StopsTurn log e stop.LogFull t u = HasNoTurn log e t.member × (u ≡ t)
StopsTurn log e stop.FolderFault t u = HasRoom log × IsList e × Unlists fault.Failed t.member u.member × (u.shared ≡ t.shared)
StopsTurn log e (stop.TooLong n) t u = HasRoom log × IsList e × (is_due t.member.due ≡ false) × HasMore t.member n × (u ≡ t)
StopsTurn log e stop.Memory t u = u ≡ t

-- a step of a member that was taken, and entered
pub record StepsTurn (log : List LogEntry) (e : Event) (t u : Turn) (now : List LogEntry) : Type 0 where
  pub reply : Reply
  pub does : Does log e reply t u
  pub entered : now ≡ log ++ entry.Stepped e reply ∷ []
