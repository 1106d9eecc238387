-- What Local has under a key is of the kind that the folder has there: each key has one kind for ever.
use Rattle.std.specs.Prelude.{All, replicate}
use Rattle.std.proofs.Common.{◌≡◌, ℕ, zero, suc, List, Some, refl, sym, ◌∙◌, ap, subst}
use Rattle.std.specs.FinMap.{empty, get-empty}
use Rattle.std.specs.Ordering.{nat_cmp}
use Rattle.nuc_base.specs.declared.node.Kind.{Kind}
use Rattle.nuc_base.specs.declared.node.Kind.TheVariants.{Folder}
use Rattle.nuc_base.proofs.Maps.{not_both}
use Rattle.nuc_folder.specs.Memory.{IsKeyed}
use Rattle.nuc_log.specs.declared.event.Event.{Event}
use Rattle.nuc_log.specs.declared.event.Event.TheVariants as event
use Rattle.nuc_log.specs.declared.log.LogEntry.{LogEntry}
use Rattle.nuc_log.specs.declared.reply.Reply.{Reply}
use Rattle.nuc_log.specs.declared.reply.Reply.TheVariants as reply
use Rattle.nuc_quiet.proofs.Soundness.{its_folder}
use Rattle.nuc_server.specs.declared.web_edit.WebEdit.{WebEdit}
use Rattle.nuc_world.specs.Form.{IsMember, IsShared, IsWorld}
use Rattle.nuc_world.specs.Runs.{IsRecounted, Reaches}
use Rattle.nuc_world.specs.Runs.Reaches.{opened, stepped, told, unlisted}
use Rattle.nuc_world.specs.State.{Due, MemberState, Turn, WorldState, after_one, fresh_member, member_of, with_failure, with_member}
use Rattle.nuc_world.specs.Step.{Does, EditsWeb, IsStep, IsTurn, client_of, planning_of}
use Rattle.nuc_world.proofs.Grown.{its_member}
use Rattle.nuc_world.proofs.Items.{all_front, all_get, all_none, all_set}
use Rattle.nuc_world.proofs.Reached.{reached_world}
use Rattle.nuc_world.proofs.Ready.{member_can_plan}
use Rattle.nuc_fit.proofs.KindsDones.{done_of}
use Rattle.nuc_fit.proofs.KindsForm.{IsFlightOf, IsNoticeOf, Kinds}
use Rattle.nuc_fit.proofs.KindsListed.{list_kinds, scan_kinds}
use Rattle.nuc_fit.proofs.KindsMember.{AreAlike, HasKinds, OfClient, client_alike, of_client}
use Rattle.nuc_fit.proofs.KindsPlans.{planned_of}
use Rattle.nuc_fit.proofs.KindsQuiet.{pull_kinds, restart_kinds, same_kinds, start_kinds, user_kinds, watch_kinds}
use Rattle.nuc_fit.proofs.KindsTakes.{take_kinds}
use Rattle.nuc_fit.proofs.Parts.{HasOneKind, InEachFolder}

-- ONE TURN, by the event and its reply
module _ (log : List LogEntry) (t u : Turn) (all : ℕ → Kind) (shared : IsShared t.shared all) (member : IsMember t.shared all t.member) (folder : IsKeyed t.member.folder)
    (kinds : Kinds) (are : AreAlike kinds t.member) where
  -- another client
  other : (now : Turn) → u ≡ now → now.member ≡ record t.member { client = u.member.client } → OfClient kinds u.member.client → HasKinds u.member
  other now is same of = record { kinds = kinds; are = client_alike kinds t.member u.member u.member.client (ap (λ (v : Turn). v.member) is ∙ same) of are }

  turn_kinds : (e : Event) (r : Reply) → Does log e r t u → HasKinds u.member
  turn_kinds (event.User c edit) (reply.User a) does = user_kinds kinds edit a t u all member are does
  turn_kinds (event.User c edit) _ does = absurd does
  turn_kinds (event.List c) (reply.Listed changes items) does = list_kinds kinds changes items t u folder.shelf are does
  turn_kinds (event.List c) _ does = absurd does
  turn_kinds (event.Scan c) (reply.Scan a) does = scan_kinds kinds t u all shared member are a does
  turn_kinds (event.Scan c) _ does = absurd does
  turn_kinds (event.Watch c) r does = watch_kinds kinds t.member.folder.pending r t u all member refl are does
  turn_kinds (event.Pull c) (reply.Pulled entries cursor) does = pull_kinds kinds entries cursor t u are does
  turn_kinds (event.Pull c) _ does = absurd does
  turn_kinds (event.Plan c) (reply.Plan a) (does, now) = other _ now refl
      (planned_of kinds (planning_of t) member.client (member_can_plan t.shared all t.member member) (of_client kinds t.member are) (planning_of u) a does)
  turn_kinds (event.Plan c) _ does = absurd does
  turn_kinds (event.Start c n) (reply.Started a) (does, same) = start_kinds kinds n t.member are a u.member does
  turn_kinds (event.Start c n) _ does = absurd does
  turn_kinds (event.Take c n) (reply.Took a) does = take_kinds kinds t all member are log c n a u does
  turn_kinds (event.Take c n) _ does = absurd does
  turn_kinds (event.Done c n) (reply.Done a) (does, now) = other _ now refl
      (done_of kinds n t.member.client member.client (of_client kinds t.member are) u.member.client t.shared.edits u.shared.edits a does)
  turn_kinds (event.Done c n) _ does = absurd does
  turn_kinds (event.Restart c) reply.Restarted does = restart_kinds kinds t u are does
  turn_kinds (event.Restart c) _ does = absurd does
  turn_kinds (event.Mark c) (reply.Marked a) (does, now) = same_kinds kinds t.member u.member (ap (λ (v : Turn). v.member) now) are
  turn_kinds (event.Mark c) _ does = absurd does
  turn_kinds (event.Web edit) r does = absurd does

-- ALL MEMBERS
member_has : (c : ℕ) (ms : List MemberState) (m : MemberState) → All HasKinds ms → member_of c ms ≡ Some m → HasKinds m
member_has zero ms m all at = cc
member_has (suc i) ms m all at = all_get HasKinds ms i m all at

members_with : (c : ℕ) (ms : List MemberState) (m : MemberState) → All HasKinds ms → HasKinds m → All HasKinds (with_member c m ms)
members_with zero ms m all its = all
members_with (suc i) ms m all its = all_set HasKinds ms i m all its

-- A STEP
turns : (log : List LogEntry) (w v : WorldState) (e : Event) (r : Reply) → Reaches log w → All HasKinds w.members → IsTurn log e r w v → All HasKinds v.members
turns log w v e r reached was turn =
    let t : Turn = record { shared = w.shared; member = turn.member } in
    let u : Turn = record { shared = v.shared; member = turn.after } in
    let world : IsWorld w = reached_world log w reached in
    let its = member_has (client_of e) w.members turn.member was turn.was in
    subst (All HasKinds) (sym turn.now) (members_with (client_of e) w.members turn.after was
    (turn_kinds log t u world.kind_of world.shared (its_member w world (client_of e) turn.member turn.was) (its_folder log w (client_of e) turn.member reached turn.was)
    its.kinds its.are e r turn.does))

web_turns : (edit : WebEdit) (r : Reply) (w v : WorldState) → All HasKinds w.members → EditsWeb edit r w v → All HasKinds v.members
web_turns edit (reply.Web a) w v was (answers, room, members, journal) = subst (All HasKinds) (sym members) was
web_turns edit _ w v was is = absurd is

steps_keep : (log : List LogEntry) (w v : WorldState) (e : Event) (r : Reply) → Reaches log w → All HasKinds w.members → IsStep log w e r v → All HasKinds v.members
steps_keep log w v (event.Web edit) r reached was step = web_turns edit r w v was step
steps_keep log w v (event.User c edit) r reached was step = turns log w v (event.User c edit) r reached was step
steps_keep log w v (event.List c) r reached was step = turns log w v (event.List c) r reached was step
steps_keep log w v (event.Scan c) r reached was step = turns log w v (event.Scan c) r reached was step
steps_keep log w v (event.Watch c) r reached was step = turns log w v (event.Watch c) r reached was step
steps_keep log w v (event.Pull c) r reached was step = turns log w v (event.Pull c) r reached was step
steps_keep log w v (event.Plan c) r reached was step = turns log w v (event.Plan c) r reached was step
steps_keep log w v (event.Start c n) r reached was step = turns log w v (event.Start c n) r reached was step
steps_keep log w v (event.Take c n) r reached was step = turns log w v (event.Take c n) r reached was step
steps_keep log w v (event.Done c n) r reached was step = turns log w v (event.Done c n) r reached was step
steps_keep log w v (event.Restart c) r reached was step = turns log w v (event.Restart c) r reached was step
steps_keep log w v (event.Mark c) r reached was step = turns log w v (event.Mark c) r reached was step

-- with other counts of a folder's calls
recounted : (c : ℕ) (count : Due → Due) (w v : WorldState) → All HasKinds w.members → IsRecounted c count w v → All HasKinds v.members
recounted c count w v was is =
    let its = member_has c w.members is.member was is.was in
    let are = its.are in
    subst (λ (x : WorldState). All HasKinds x.members) (sym is.now) (members_with c w.members (record is.member { due = count is.member.due }) was (record {
      kinds = its.kinds;
      are = record { held = are.held; pending = are.pending; listed = are.listed; local = are.local; flights = are.flights };
    }))

-- WITHOUT ANYTHING IN IT
all_folders : Kinds
all_folders key = Folder

fresh_kinds : HasKinds fresh_member
fresh_kinds = record {
  kinds = all_folders;
  are = record {
    held = λ k h at. absurd (not_both empty k h (get-empty nat_cmp k) at);
    pending = all_none (IsNoticeOf all_folders);
    listed = tt;
    local = λ x k n key at. absurd (not_both empty x n (get-empty nat_cmp x) at);
    flights = all_none (IsFlightOf all_folders);
  };
}

all_alike : (n : ℕ) (m : MemberState) → HasKinds m → All HasKinds (replicate n m)
all_alike zero m its = all_none HasKinds
all_alike (suc n) m its = all_front HasKinds m (replicate n m) its (all_alike n m its)

-- EVERY WORLD
reached_kinds : (log : List LogEntry) (w : WorldState) → Reaches log w → All HasKinds w.members
reached_kinds _ _ (opened clients some few) = all_alike clients fresh_member fresh_kinds
reached_kinds _ v (stepped log w e r _ before step) = steps_keep log w v e r before (reached_kinds log w before) step
reached_kinds log v (told _ w c k _ before some is) = recounted c (with_failure k) w v (reached_kinds log w before) is
reached_kinds log v (unlisted _ w c _ before is) = recounted c after_one w v (reached_kinds log w before) is.counted

pub kinds_agree : InEachFolder HasOneKind
kinds_agree log w c m keeps reached was x k n h key there stands =
    let its = member_has c w.members m (reached_kinds log w reached) was in
    its.are.local x k n key there ∙ sym (its.are.held k h stands)
