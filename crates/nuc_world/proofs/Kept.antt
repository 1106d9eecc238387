-- Each step keeps a world.
use Rattle.std.proofs.Common.{ℕ, List, refl}
use Rattle.nuc_base.specs.declared.node.Kind.{Kind}
use Rattle.nuc_folder.specs.declared.user_edit.UserEdit.{UserEdit}
use Rattle.nuc_log.specs.declared.event.Event.{Event}
use Rattle.nuc_log.specs.declared.event.Event.TheVariants as event
use Rattle.nuc_log.specs.declared.log.LogEntry.{LogEntry}
use Rattle.nuc_log.specs.declared.reply.Reply.{Reply}
use Rattle.nuc_log.specs.declared.reply.Reply.TheVariants as reply
use Rattle.nuc_server.specs.declared.web_edit.WebEdit.{WebEdit}
use Rattle.nuc_world.specs.Form.{IsMember, IsShared, IsWorld}
use Rattle.nuc_world.specs.Laws.{StepsKeepWorlds}
use Rattle.nuc_world.specs.State.{Turn, WorldState}
use Rattle.nuc_world.specs.Step.{Does, EditsWeb, IsTurn, client_of}
use Rattle.nuc_world.proofs.Dones.{done_turns}
use Rattle.nuc_world.proofs.Grown.{Turned, its_member, world_passed, world_turned}
use Rattle.nuc_world.proofs.Plans.{plan_turns}
use Rattle.nuc_world.proofs.Quiet.{list_turns, mark_turns, pull_turns, restart_turns, start_turns, user_turns}
use Rattle.nuc_world.proofs.Scanned.{scan_turns}
use Rattle.nuc_world.proofs.TakeTurns.{take_turns}
use Rattle.nuc_world.proofs.Watched.{watch_turns}
use Rattle.nuc_world.proofs.Web.{web_passes}

-- ONE TURN, by the event and its reply
module _ (log : List LogEntry) (t u : Turn) (kinds : ℕ → Kind) (shared : IsShared t.shared kinds) (member : IsMember t.shared kinds t.member) where
  user : (c : ℕ) (edit : UserEdit) (r : Reply) → Does log (event.User c edit) r t u → Turned t u kinds
  user c edit (reply.User answer) does = user_turns edit answer t u kinds shared member does
  user c edit (reply.Web answer) does = absurd does
  user c edit (reply.Listed changes items) does = absurd does
  user c edit (reply.Scan answer) does = absurd does
  user c edit (reply.Watch answer) does = absurd does
  user c edit reply.Nothing does = absurd does
  user c edit (reply.Pulled entries cursor) does = absurd does
  user c edit (reply.Plan answer) does = absurd does
  user c edit (reply.Started answer) does = absurd does
  user c edit (reply.Took answer) does = absurd does
  user c edit (reply.Done answer) does = absurd does
  user c edit reply.Restarted does = absurd does
  user c edit (reply.Marked answer) does = absurd does

  listing : (c : ℕ) (r : Reply) → Does log (event.List c) r t u → Turned t u kinds
  listing c (reply.User answer) does = absurd does
  listing c (reply.Web answer) does = absurd does
  listing c (reply.Listed changes items) does = list_turns changes items t u kinds shared member does
  listing c (reply.Scan answer) does = absurd does
  listing c (reply.Watch answer) does = absurd does
  listing c reply.Nothing does = absurd does
  listing c (reply.Pulled entries cursor) does = absurd does
  listing c (reply.Plan answer) does = absurd does
  listing c (reply.Started answer) does = absurd does
  listing c (reply.Took answer) does = absurd does
  listing c (reply.Done answer) does = absurd does
  listing c reply.Restarted does = absurd does
  listing c (reply.Marked answer) does = absurd does

  scanning : (c : ℕ) (r : Reply) → Does log (event.Scan c) r t u → Turned t u kinds
  scanning c (reply.User answer) does = absurd does
  scanning c (reply.Web answer) does = absurd does
  scanning c (reply.Listed changes items) does = absurd does
  scanning c (reply.Scan answer) does = scan_turns answer t u kinds shared member does
  scanning c (reply.Watch answer) does = absurd does
  scanning c reply.Nothing does = absurd does
  scanning c (reply.Pulled entries cursor) does = absurd does
  scanning c (reply.Plan answer) does = absurd does
  scanning c (reply.Started answer) does = absurd does
  scanning c (reply.Took answer) does = absurd does
  scanning c (reply.Done answer) does = absurd does
  scanning c reply.Restarted does = absurd does
  scanning c (reply.Marked answer) does = absurd does

  pull : (c : ℕ) (r : Reply) → Does log (event.Pull c) r t u → Turned t u kinds
  pull c (reply.User answer) does = absurd does
  pull c (reply.Web answer) does = absurd does
  pull c (reply.Listed changes items) does = absurd does
  pull c (reply.Scan answer) does = absurd does
  pull c (reply.Watch answer) does = absurd does
  pull c reply.Nothing does = absurd does
  pull c (reply.Pulled entries cursor) does = pull_turns entries cursor t u kinds shared member does
  pull c (reply.Plan answer) does = absurd does
  pull c (reply.Started answer) does = absurd does
  pull c (reply.Took answer) does = absurd does
  pull c (reply.Done answer) does = absurd does
  pull c reply.Restarted does = absurd does
  pull c (reply.Marked answer) does = absurd does

  plan : (c : ℕ) (r : Reply) → Does log (event.Plan c) r t u → Turned t u kinds
  plan c (reply.User answer) does = absurd does
  plan c (reply.Web answer) does = absurd does
  plan c (reply.Listed changes items) does = absurd does
  plan c (reply.Scan answer) does = absurd does
  plan c (reply.Watch answer) does = absurd does
  plan c reply.Nothing does = absurd does
  plan c (reply.Pulled entries cursor) does = absurd does
  plan c (reply.Plan answer) does = plan_turns answer t u kinds shared member does
  plan c (reply.Started answer) does = absurd does
  plan c (reply.Took answer) does = absurd does
  plan c (reply.Done answer) does = absurd does
  plan c reply.Restarted does = absurd does
  plan c (reply.Marked answer) does = absurd does

  starting : (c : ℕ) (n : ℕ) (r : Reply) → Does log (event.Start c n) r t u → Turned t u kinds
  starting c n (reply.User answer) does = absurd does
  starting c n (reply.Web answer) does = absurd does
  starting c n (reply.Listed changes items) does = absurd does
  starting c n (reply.Scan answer) does = absurd does
  starting c n (reply.Watch answer) does = absurd does
  starting c n reply.Nothing does = absurd does
  starting c n (reply.Pulled entries cursor) does = absurd does
  starting c n (reply.Plan answer) does = absurd does
  starting c n (reply.Started answer) does = start_turns n answer t u kinds shared member does.0 does.1
  starting c n (reply.Took answer) does = absurd does
  starting c n (reply.Done answer) does = absurd does
  starting c n reply.Restarted does = absurd does
  starting c n (reply.Marked answer) does = absurd does

  taking : (c : ℕ) (n : ℕ) (r : Reply) → Does log (event.Take c n) r t u → Turned t u kinds
  taking c n (reply.User answer) does = absurd does
  taking c n (reply.Web answer) does = absurd does
  taking c n (reply.Listed changes items) does = absurd does
  taking c n (reply.Scan answer) does = absurd does
  taking c n (reply.Watch answer) does = absurd does
  taking c n reply.Nothing does = absurd does
  taking c n (reply.Pulled entries cursor) does = absurd does
  taking c n (reply.Plan answer) does = absurd does
  taking c n (reply.Started answer) does = absurd does
  taking c n (reply.Took answer) does = take_turns log c n answer t u kinds shared member does
  taking c n (reply.Done answer) does = absurd does
  taking c n reply.Restarted does = absurd does
  taking c n (reply.Marked answer) does = absurd does

  ending : (c : ℕ) (n : ℕ) (r : Reply) → Does log (event.Done c n) r t u → Turned t u kinds
  ending c n (reply.User answer) does = absurd does
  ending c n (reply.Web answer) does = absurd does
  ending c n (reply.Listed changes items) does = absurd does
  ending c n (reply.Scan answer) does = absurd does
  ending c n (reply.Watch answer) does = absurd does
  ending c n reply.Nothing does = absurd does
  ending c n (reply.Pulled entries cursor) does = absurd does
  ending c n (reply.Plan answer) does = absurd does
  ending c n (reply.Started answer) does = absurd does
  ending c n (reply.Took answer) does = absurd does
  ending c n (reply.Done answer) does = done_turns n answer t u kinds shared member does
  ending c n reply.Restarted does = absurd does
  ending c n (reply.Marked answer) does = absurd does

  restart : (c : ℕ) (r : Reply) → Does log (event.Restart c) r t u → Turned t u kinds
  restart c (reply.User answer) does = absurd does
  restart c (reply.Web answer) does = absurd does
  restart c (reply.Listed changes items) does = absurd does
  restart c (reply.Scan answer) does = absurd does
  restart c (reply.Watch answer) does = absurd does
  restart c reply.Nothing does = absurd does
  restart c (reply.Pulled entries cursor) does = absurd does
  restart c (reply.Plan answer) does = absurd does
  restart c (reply.Started answer) does = absurd does
  restart c (reply.Took answer) does = absurd does
  restart c (reply.Done answer) does = absurd does
  restart c reply.Restarted does = restart_turns t u kinds shared member does
  restart c (reply.Marked answer) does = absurd does

  mark : (c : ℕ) (r : Reply) → Does log (event.Mark c) r t u → Turned t u kinds
  mark c (reply.User answer) does = absurd does
  mark c (reply.Web answer) does = absurd does
  mark c (reply.Listed changes items) does = absurd does
  mark c (reply.Scan answer) does = absurd does
  mark c (reply.Watch answer) does = absurd does
  mark c reply.Nothing does = absurd does
  mark c (reply.Pulled entries cursor) does = absurd does
  mark c (reply.Plan answer) does = absurd does
  mark c (reply.Started answer) does = absurd does
  mark c (reply.Took answer) does = absurd does
  mark c (reply.Done answer) does = absurd does
  mark c reply.Restarted does = absurd does
  mark c (reply.Marked answer) does = mark_turns t u kinds shared member does.1

  does_turns : (e : Event) (r : Reply) → Does log e r t u → Turned t u kinds
  does_turns (event.User c edit) r does = user c edit r does
  does_turns (event.List c) r does = listing c r does
  does_turns (event.Scan c) r does = scanning c r does
  does_turns (event.Watch c) r does = watch_turns t.member.folder.pending r t u kinds shared member refl does
  does_turns (event.Pull c) r does = pull c r does
  does_turns (event.Plan c) r does = plan c r does
  does_turns (event.Start c n) r does = starting c n r does
  does_turns (event.Take c n) r does = taking c n r does
  does_turns (event.Done c n) r does = ending c n r does
  does_turns (event.Restart c) r does = restart c r does
  does_turns (event.Mark c) r does = mark c r does
  does_turns (event.Web edit) r does = absurd does

turn_keeps : (log : List LogEntry) (w v : WorldState) (e : Event) (r : Reply) → IsWorld w → IsTurn log e r w v → IsWorld v
turn_keeps log w v e r world turn =
    let t : Turn = record { shared = w.shared; member = turn.member } in
    let u : Turn = record { shared = v.shared; member = turn.after } in
    world_turned w v world (client_of e) turn.member turn.after turn.now
    (does_turns log t u world.kind_of world.shared (its_member w world (client_of e) turn.member turn.was) e r turn.does)

web_keeps : (edit : WebEdit) (r : Reply) (w v : WorldState) → IsWorld w → EditsWeb edit r w v → IsWorld v
web_keeps edit (reply.User answer) w v world is = absurd is
web_keeps edit (reply.Web answer) w v world (answers, known, now, journal) =
    world_passed w v world now (web_passes w.shared v.shared world.kind_of world.shared journal edit answer known answers)
web_keeps edit (reply.Listed changes items) w v world is = absurd is
web_keeps edit (reply.Scan answer) w v world is = absurd is
web_keeps edit (reply.Watch answer) w v world is = absurd is
web_keeps edit reply.Nothing w v world is = absurd is
web_keeps edit (reply.Pulled entries cursor) w v world is = absurd is
web_keeps edit (reply.Plan answer) w v world is = absurd is
web_keeps edit (reply.Started answer) w v world is = absurd is
web_keeps edit (reply.Took answer) w v world is = absurd is
web_keeps edit (reply.Done answer) w v world is = absurd is
web_keeps edit reply.Restarted w v world is = absurd is
web_keeps edit (reply.Marked answer) w v world is = absurd is

pub steps_keep_worlds : StepsKeepWorlds
steps_keep_worlds log w v (event.User c edit) r world step = turn_keeps log w v (event.User c edit) r world step
steps_keep_worlds log w v (event.List c) r world step = turn_keeps log w v (event.List c) r world step
steps_keep_worlds log w v (event.Scan c) r world step = turn_keeps log w v (event.Scan c) r world step
steps_keep_worlds log w v (event.Watch c) r world step = turn_keeps log w v (event.Watch c) r world step
steps_keep_worlds log w v (event.Pull c) r world step = turn_keeps log w v (event.Pull c) r world step
steps_keep_worlds log w v (event.Plan c) r world step = turn_keeps log w v (event.Plan c) r world step
steps_keep_worlds log w v (event.Start c n) r world step = turn_keeps log w v (event.Start c n) r world step
steps_keep_worlds log w v (event.Take c n) r world step = turn_keeps log w v (event.Take c n) r world step
steps_keep_worlds log w v (event.Done c n) r world step = turn_keeps log w v (event.Done c n) r world step
steps_keep_worlds log w v (event.Restart c) r world step = turn_keeps log w v (event.Restart c) r world step
steps_keep_worlds log w v (event.Mark c) r world step = turn_keeps log w v (event.Mark c) r world step
steps_keep_worlds log w v (event.Web edit) r world step = web_keeps edit r w v world step
