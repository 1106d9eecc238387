-- The number of members stays.
use Rattle.std.proofs.Common.{◌≡◌, ◌++◌, ℕ, zero, suc, List, [], ◌∷◌, Option, Some, None, length, refl, ap, ◌∙◌}
use Rattle.std.proofs.lemmas.List.{length-set}
use Rattle.nuc_log.specs.declared.event.Event.{Event}
use Rattle.nuc_log.specs.declared.event.Event.TheVariants as event
use Rattle.nuc_log.specs.declared.log.LogEntry.{LogEntry}
use Rattle.nuc_log.specs.declared.reply.Reply.{Reply}
use Rattle.nuc_log.specs.declared.reply.Reply.TheVariants as reply
use Rattle.nuc_world.specs.Runs.{IsRecounted}
use Rattle.nuc_world.specs.State.{Due, MemberState, WorldState, after_one, with_failure, with_member}
use Rattle.nuc_world.specs.Step.{EditsWeb, IsStep, IsTurn, client_of}
use Rattle.nuc_world.specs.World.{Stops, WorldData}
use Rattle.nuc_world.specs.declared.stop.Stop.{Stop}
use Rattle.nuc_world.specs.declared.stop.Stop.TheVariants as stop
use Rattle.nuc_sync.specs.Runs.{Breaks, Does, Refuses, Runs, StopsAt, goes, stays}
use Rattle.nuc_sync.specs.Tasks.{Task, event_of, fails, restarts}

abbrev pub count_of : WorldState → ℕ
count_of w = length w.members

with_member_count : (c : ℕ) (m : MemberState) (members : List MemberState) → length (with_member c m members) ≡ length members
with_member_count zero m members = refl
with_member_count (suc i) m members = length-set members i m

recounted : (c : ℕ) (count : Due → Due) (w v : WorldState) → IsRecounted c count w v → count_of v ≡ count_of w
recounted c count w v is = ap (λ (u : WorldState). length u.members) is.now ∙ with_member_count c (record is.member { due = count is.member.due }) w.members

turned : (log : List LogEntry) (e : Event) (r : Reply) (w v : WorldState) → IsTurn log e r w v → count_of v ≡ count_of w
turned log e r w v is = ap (λ (members : List MemberState). length members) is.now ∙ with_member_count (client_of e) is.after w.members

step_keeps : (log : List LogEntry) (w : WorldState) (e : Event) (r : Reply) (v : WorldState) → IsStep log w e r v → count_of v ≡ count_of w
step_keeps log w (event.Web edit) (reply.Web answer) v is = ap (λ (members : List MemberState). length members) is.2
step_keeps log w (event.Web edit) r v is = absurd is
step_keeps log w e r v is = turned log e r w v is

same_count : (w v : WorldData) → v ≡ w → count_of v.now ≡ count_of w.now
same_count w v is = ap (λ (u : WorldData). length u.now.members) is

does_keep : (t : Task) (o : Option Event) (w : WorldData) (asked : List Task) (v : WorldData) → Does t o w asked v → count_of v.now ≡ count_of w.now
does_keep t (Some e) w asked v is = step_keeps w.log w.now e is.reply v.now is.step
does_keep (restarts client) None w asked v is = same_count w v is.stays
does_keep (fails client call) None w asked v is = recounted client (with_failure call) w.now v.now is.counted
does_keep t None w asked v is = absurd is

pub runs_keep_members : (w : WorldData) (ts : List Task) (v : WorldData) (left : List Task) → Runs w ts v left → count_of v.now ≡ count_of w.now
runs_keep_members w ts v left (stays x a) = refl
runs_keep_members w ts v left (goes x t a asked u y rest moves later) =
    runs_keep_members u (asked ++ a) v left later ∙ does_keep t (event_of t) w asked u moves

stop_keeps : (w : WorldData) (e : Event) (why : Stop) (v : WorldData) → Stops w e why v → count_of v.now ≡ count_of w.now
stop_keeps w e stop.NoClient v is = same_count w v is.1
stop_keeps w e stop.LogFull v is = same_count w v is.2
stop_keeps w e stop.FolderFault v is = recounted is.1.client after_one w.now v.now is.1.unlisted.counted
stop_keeps w e (stop.TooLong n) v is = same_count w v is.2
stop_keeps w e stop.Memory v is = same_count w v is

refusal_keeps : (t : Task) (o : Option Event) (w : WorldData) (why : Stop) (v : WorldData) → Refuses t o w why v → count_of v.now ≡ count_of w.now
refusal_keeps t (Some e) w why v is = stop_keeps w e why v is
refusal_keeps t None w stop.Memory v is = same_count w v is
refusal_keeps t None w why v is = absurd is

stop_at_keeps : (ts : List Task) (w : WorldData) (why : Stop) (v : WorldData) → StopsAt ts w why v → count_of v.now ≡ count_of w.now
stop_at_keeps (t ∷ ts) w why v is = refusal_keeps t (event_of t) w why v is
stop_at_keeps [] w stop.Memory v is = same_count w v is
stop_at_keeps [] w why v is = absurd is

pub breaks_keep_members : (w : WorldData) (ts : List Task) (why : Stop) (v : WorldData) → Breaks w ts why v → count_of v.now ≡ count_of w.now
breaks_keep_members w ts why v is = stop_at_keeps is.left is.before why v is.stops ∙ runs_keep_members w ts is.before is.left is.runs
