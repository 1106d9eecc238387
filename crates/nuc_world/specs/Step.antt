-- One step: which reply an event is given, and what comes of it. Whatever is claimed of a log is claimed by this.
use Rattle.std.specs.Prelude.{◌≡◌, ◌≢◌, ◌≤◌, ℕ, false, length, List, [], ◌∷◌, Option, None, Some}
use Rattle.nuc_folder.specs.Listing.{IsListing}
use Rattle.nuc_folder.specs.Memory.{MemState}
use Rattle.nuc_folder.specs.User.{UserAnswers}
use Rattle.nuc_folder.specs.declared.item.Item.{Item}
use Rattle.nuc_folder.specs.declared.listed.TheConstants.{MOST_ITEMS}
use Rattle.nuc_folder.specs.declared.noticed.Noticed.{Noticed}
use Rattle.nuc_folder.specs.declared.user_edit.UserEdit.{UserEdit}
use Rattle.nuc_folder.specs.declared.user_edit.UserReply.{UserReply}
use Rattle.nuc_folder.specs.declared.user_edit.UserReply.TheVariants as user
use Rattle.nuc_journal.specs.Journal.{IsJournal}
use Rattle.nuc_journal.specs.declared.entry.Entry.{Entry}
use Rattle.nuc_log.specs.declared.event.Event.{Event}
use Rattle.nuc_log.specs.declared.event.Event.TheVariants as event
use Rattle.nuc_log.specs.declared.log.LogEntry.{LogEntry}
use Rattle.nuc_log.specs.declared.reply.Reply.{Reply}
use Rattle.nuc_log.specs.declared.reply.Reply.TheVariants as reply
use Rattle.nuc_replica.specs.Following.{next_entries}
use Rattle.nuc_server.specs.Web.{WebAnswers}
use Rattle.nuc_server.specs.declared.web_edit.WebEdit.{WebEdit}
use Rattle.nuc_server.specs.declared.web_edit.WebReply.TheVariants as web
use Rattle.nuc_step.specs.Held.{HeldData, HeldState}
use Rattle.nuc_step.specs.Planning.{PlanAnswers, Planning}
use Rattle.nuc_step.specs.Scanning.{ScanAnswers}
use Rattle.nuc_step.specs.Steps.{IsDone, after_pull, after_restart}
use Rattle.nuc_step.specs.Watching.{WatchAnswers, Watching}
use Rattle.nuc_step.specs.declared.answers.Planned.{Planned}
use Rattle.nuc_step.specs.declared.answers.Scanned.{Scanned}
use Rattle.nuc_step.specs.declared.reply.DoneReply.{DoneReply}
use Rattle.nuc_world.specs.Marks.{Marks}
use Rattle.nuc_world.specs.Starts.{Starts, called, with_client}
use Rattle.nuc_world.specs.State.{MemberState, Turn, WorldState, is_due, member_of, with_member}
use Rattle.nuc_world.specs.Takes.{Takes}

abbrev pub with_folder : MemState → MemberState → MemberState
with_folder folder m = record m { folder = folder }

-- USER
abbrev pub Edits : UserEdit → Turn → UserReply → Turn → Type 0
Edits edit t answer u = UserAnswers edit t.member.folder answer u.member.folder × (answer ≢ user.Memory)
    × (u ≡ record t { member = with_folder u.member.folder t.member })

-- LIST. The client holds the folder's listing, and nothing is pending
abbrev pub after_list : List Item → MemberState → MemberState
after_list items m = record (called m) {
  listing = Some (record { changes = m.client.changes; items = items });
  folder = record m.folder { pending = [] };
}

pub record Lists (changes : ℕ) (items : List Item) (t u : Turn) : Type 0 where
  pub lasts : is_due t.member.due ≡ false
  pub items_are : IsListing t.member.folder.held items
  pub few : length items ≤ MOST_ITEMS
  pub changes_are : changes ≡ t.member.client.changes
  pub now : u ≡ record t { member = after_list items t.member }

-- SCAN AND WATCH
abbrev pub watching_of : Turn → Watching
watching_of t = record { client = t.member.client; recorded = t.shared.edits; ids = t.shared.ids }

-- the turn with what these may change
abbrev pub with_watching : Watching → Turn → Turn
with_watching w t = record {
  shared = record t.shared { edits = w.recorded; ids = w.ids };
  member = with_client w.client t.member;
}

-- a listing that is held, and none was when it was settled
abbrev pub held_as : Option HeldData → HeldState
held_as listing = record { now = listing; settled = None }

abbrev pub Scans : Scanned → Turn → Turn → Type 0
Scans answer t u = ScanAnswers (held_as t.member.listing) (watching_of t) answer (held_as u.member.listing) (watching_of u)
    × (u ≡ record (with_watching (watching_of u) t) { member = record (with_client u.member.client t.member) { listing = u.member.listing } })

-- what is pending then
abbrev pub with_pending : List Noticed → MemberState → MemberState
with_pending notices m = record m { folder = record m.folder { pending = notices } }

-- the oldest change that is pending is taken over, or isn't pending any more all the same
abbrev pub Watches : List Noticed → Reply → Turn → Turn → Type 0
Watches [] reply.Nothing t u = u ≡ t
Watches (notice ∷ notices) (reply.Watch answer) t u = WatchAnswers (watching_of t) notice answer (watching_of u)
    × (u ≡ record (with_watching (watching_of u) t) { member = with_pending notices (with_client u.member.client t.member) })
Watches pending _ t u = ⊥

-- PULL takes at most 64 entries behind the cursor
abbrev pub page : Turn → List Entry
page t = next_entries t.shared.entries t.member.client.remote 64

pub record Pulls (entries cursor : ℕ) (t u : Turn) : Type 0 where
  pub entries_are : entries ≡ length (page t)
  pub cursor_is : cursor ≡ u.member.client.remote.cursor
  pub now : u ≡ record t { member = with_client (after_pull (page t) t.member.client) t.member }

-- PLAN
abbrev pub planning_of : Turn → Planning
planning_of t = record { client = t.member.client; recorded = t.shared.edits; next_id = t.shared.ids.next_id }

-- the turn with what a plan may change
abbrev pub with_planning : Planning → Turn → Turn
with_planning p t = record {
  shared = record t.shared { edits = p.recorded; ids = record t.shared.ids { next_id = p.next_id } };
  member = with_client p.client t.member;
}

abbrev pub Plans : Planned → Turn → Turn → Type 0
Plans answer t u = PlanAnswers (planning_of t) answer (planning_of u) × (u ≡ with_planning (planning_of u) t)

-- DONE
abbrev pub Dones : ℕ → DoneReply → Turn → Turn → Type 0
Dones n answer t u = IsDone n t.member.client t.shared.edits answer u.member.client u.shared.edits
    × (u ≡ record { shared = record t.shared { edits = u.shared.edits }; member = with_client u.member.client t.member })

-- RESTART forgets what is in flight, and the listing
abbrev pub after_restarting : Turn → Turn
after_restarting t = record t { member = record (with_client (after_restart t.member.client) t.member) { listing = None } }

-- WHAT A CLIENT'S STEP DOES
abbrev pub Does : List LogEntry → Event → Reply → Turn → Turn → Type 0
Does log (event.User c edit) (reply.User answer) t u = Edits edit t answer u
Does log (event.List c) (reply.Listed changes items) t u = Lists changes items t u
Does log (event.Scan c) (reply.Scan answer) t u = Scans answer t u
Does log (event.Watch c) r t u = Watches t.member.folder.pending r t u
Does log (event.Pull c) (reply.Pulled entries cursor) t u = Pulls entries cursor t u
Does log (event.Plan c) (reply.Plan answer) t u = Plans answer t u
Does log (event.Start c n) (reply.Started answer) t u = Starts n t.member answer u.member × (u.shared ≡ t.shared)
Does log (event.Take c n) (reply.Took answer) t u = Takes log c n t answer u
Does log (event.Done c n) (reply.Done answer) t u = Dones n answer t u
Does log (event.Restart c) reply.Restarted t u = u ≡ after_restarting t
Does log (event.Mark c) (reply.Marked answer) t u = Marks t.member.client answer × (u ≡ t)
Does log _ _ t u = ⊥

-- THE WORLD'S STEP
abbrev pub client_of : Event → ℕ
client_of (event.User c edit) = c
client_of (event.Web edit) = 0
client_of (event.List c) = c
client_of (event.Scan c) = c
client_of (event.Watch c) = c
client_of (event.Pull c) = c
client_of (event.Plan c) = c
client_of (event.Start c n) = c
client_of (event.Take c n) = c
client_of (event.Done c n) = c
client_of (event.Restart c) = c
client_of (event.Mark c) = c

-- one of the members takes it, and all others stay
pub record IsTurn (log : List LogEntry) (e : Event) (r : Reply) (w v : WorldState) : Type 0 where
  pub member : MemberState
  pub after : MemberState
  pub was : member_of (client_of e) w.members ≡ Some member
  pub now : v.members ≡ with_member (client_of e) after w.members
  pub does : Does log e r (record { shared = w.shared; member = member }) (record { shared = v.shared; member = after })

-- an edit on the web concerns what is shared alone, and the server has a journal after it
abbrev pub EditsWeb : WebEdit → Reply → WorldState → WorldState → Type 0
EditsWeb edit (reply.Web answer) w v = WebAnswers w.shared edit answer v.shared × (answer ≢ web.Memory) × (v.members ≡ w.members) × IsJournal v.shared.entries
EditsWeb edit _ w v = ⊥

-- an event leads from one world to another, with this reply, behind these entries of the log
abbrev pub IsStep : List LogEntry → WorldState → Event → Reply → WorldState → Type 0
IsStep log w (event.Web edit) r v = EditsWeb edit r w v
IsStep log w e r v = IsTurn log e r w v
