-- No file of a folder is too large, whatever log that keeps to the bounds led to it.
use Rattle.std.specs.Prelude.{All}
use Rattle.std.proofs.Common.{◌≡◌, ◌++◌, ℕ, zero, suc, List, [], ◌∷◌, Some, refl, sym, ◌∙◌, subst}
use Rattle.std.proofs.lemmas.List.Elements.{All-nil, All-pop, All-replicate}
use Rattle.std.specs.FinMap.{get-empty}
use Rattle.std.specs.Ordering.{nat_cmp}
use Rattle.nuc_log.specs.declared.event.Event.{Event}
use Rattle.nuc_log.specs.declared.event.Event.TheVariants as event
use Rattle.nuc_log.specs.declared.log.LogEntry.{LogEntry}
use Rattle.nuc_log.specs.declared.log.LogEntry.TheVariants as entry
use Rattle.nuc_log.specs.declared.reply.Reply.{Reply}
use Rattle.nuc_log.specs.declared.reply.Reply.TheVariants as reply
use Rattle.nuc_script.specs.Fitting.{FitsWeb}
use Rattle.nuc_server.specs.declared.web_edit.WebEdit.{WebEdit}
use Rattle.nuc_world.specs.Runs.{IsRecounted, Reaches}
use Rattle.nuc_world.specs.Runs.Reaches.{opened, stepped, told, unlisted}
use Rattle.nuc_world.specs.State.{Due, MemberState, Turn, WorldState, after_one, fresh, fresh_member, member_of, with_failure, with_member}
use Rattle.nuc_world.specs.Step.{EditsWeb, IsStep, IsTurn, client_of}
use Rattle.nuc_world.proofs.Items.{all_get, all_set}
use Rattle.nuc_fit.specs.Bounds.{FitsEntry, FitsEvent, KeepsToBounds}
use Rattle.nuc_fit.proofs.Parts.{HasShortFiles, InEachFolder}
use Rattle.nuc_fit.proofs.SizesFolder.{IsFewNotice}
use Rattle.nuc_fit.proofs.SizesRecorded.{PutsFew}
use Rattle.nuc_fit.proofs.SizesShort.{FilesAreShort, IsShortBlock, few_is_short}
use Rattle.nuc_fit.proofs.SizesTurns.{MemberIsShort, TurnIsShort, does_short}
use Rattle.nuc_fit.proofs.SizesWeb.{SharesShort, web_short}

record WorldIsShort (w : WorldState) : Type 0 where
  shared : SharesShort w.shared
  members : All MemberIsShort w.members

-- the member of a client, and another one in its place
member_short : (c : ℕ) (ms : List MemberState) (m : MemberState) → All MemberIsShort ms → member_of c ms ≡ Some m → MemberIsShort m
member_short zero ms m all at = cc
member_short (suc i) ms m all at = all_get MemberIsShort ms i m all at

members_with : (c : ℕ) (ms : List MemberState) (m : MemberState) → All MemberIsShort ms → MemberIsShort m → All MemberIsShort (with_member c m ms)
members_with zero ms m all its = all
members_with (suc i) ms m all its = all_set MemberIsShort ms i m all its

-- A STEP
turn_short : (log : List LogEntry) (w v : WorldState) (e : Event) (r : Reply) → FitsEvent e → WorldIsShort w → IsTurn log e r w v → WorldIsShort v
turn_short log w v e r fits was turn =
    let t : Turn = record { shared = w.shared; member = turn.member } in
    let u : Turn = record { shared = v.shared; member = turn.after } in
    let its : TurnIsShort t = record { shared = was.shared; member = member_short (client_of e) w.members turn.member was.members turn.was } in
    let so = does_short log t its u e r fits turn.does in
    record {
      shared = so.shared;
      members = subst (All MemberIsShort) (sym turn.now) (members_with (client_of e) w.members turn.after was.members so.member);
    }

web_keeps : (edit : WebEdit) (r : Reply) (w v : WorldState) → FitsWeb edit → WorldIsShort w → EditsWeb edit r w v → WorldIsShort v
web_keeps edit (reply.Web a) w v fits was (answers, known, now, journal) = record {
  shared = web_short w.shared v.shared was.shared edit fits a known answers;
  members = subst (All MemberIsShort) (sym now) was.members;
}
web_keeps edit _ w v fits was is = absurd is

step_short : (log : List LogEntry) (w v : WorldState) (e : Event) (r : Reply) → FitsEvent e → WorldIsShort w → IsStep log w e r v → WorldIsShort v
step_short log w v (event.Web edit) r fits was step = web_keeps edit r w v fits was step
step_short log w v (event.User c edit) r fits was step = turn_short log w v (event.User c edit) r fits was step
step_short log w v (event.List c) r fits was step = turn_short log w v (event.List c) r fits was step
step_short log w v (event.Scan c) r fits was step = turn_short log w v (event.Scan c) r fits was step
step_short log w v (event.Watch c) r fits was step = turn_short log w v (event.Watch c) r fits was step
step_short log w v (event.Pull c) r fits was step = turn_short log w v (event.Pull c) r fits was step
step_short log w v (event.Plan c) r fits was step = turn_short log w v (event.Plan c) r fits was step
step_short log w v (event.Start c n) r fits was step = turn_short log w v (event.Start c n) r fits was step
step_short log w v (event.Take c n) r fits was step = turn_short log w v (event.Take c n) r fits was step
step_short log w v (event.Done c n) r fits was step = turn_short log w v (event.Done c n) r fits was step
step_short log w v (event.Restart c) r fits was step = turn_short log w v (event.Restart c) r fits was step
step_short log w v (event.Mark c) r fits was step = turn_short log w v (event.Mark c) r fits was step

-- OTHER COUNTS of a folder's calls
recounted : (c : ℕ) (count : Due → Due) (w v : WorldState) → WorldIsShort w → IsRecounted c count w v → WorldIsShort v
recounted c count w v was is =
    let m = member_short c w.members is.member was.members is.was in
    subst WorldIsShort (sym is.now) (record {
      shared = was.shared;
      members = members_with c w.members (record is.member { due = count is.member.due }) was.members (record { folder = m.folder; listed = m.listed });
    })

-- AT FIRST nothing is there
no_files : FilesAreShort fresh_member.folder.held
no_files x bytes at = absurd (let none = sym (get-empty nat_cmp x) ∙ at in cc)

opens_short : (clients : ℕ) → WorldIsShort (fresh clients)
opens_short clients = record {
  shared = record { edits = All-nil PutsFew; blocks = All-nil IsShortBlock };
  members = All-replicate MemberIsShort clients fresh_member (record { folder = record { held = no_files; pending = All-nil IsFewNotice }; listed = tt });
}

-- WHATEVER LOG led to the world
reached_short : (log : List LogEntry) (w : WorldState) → KeepsToBounds log → Reaches log w → WorldIsShort w
reached_short _ _ keeps (opened clients some few) = opens_short clients
reached_short _ v keeps (stepped log w e r _ before step) =
    let both = All-pop FitsEntry (log ++ entry.Stepped e r ∷ []) log (Some (entry.Stepped e r)) refl keeps in
    step_short log w v e r both.1 (reached_short log w both.0 before) step
reached_short log v keeps (told _ w c k _ before some is) = recounted c (with_failure k) w v (reached_short log w keeps before) is
reached_short log v keeps (unlisted _ w c _ before is) = recounted c after_one w v (reached_short log w keeps before) is.counted

pub files_are_short : InEachFolder HasShortFiles
files_are_short log w c m keeps reached was x bytes at =
    few_is_short bytes ((member_short c w.members m (reached_short log w keeps reached).members was).folder.held x bytes at)
