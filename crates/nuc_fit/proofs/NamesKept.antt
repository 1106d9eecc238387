-- Each step leaves names alone.
use Rattle.std.specs.Prelude.{All}
use Rattle.std.proofs.Common.{◌<◌, ◌+◌, ◌^◌, ℕ, List, refl, sym, subst, arith}
use Rattle.nuc_folder.specs.declared.user_edit.UserEdit.{UserEdit}
use Rattle.nuc_log.specs.declared.event.Event.{Event}
use Rattle.nuc_log.specs.declared.event.Event.TheVariants as event
use Rattle.nuc_log.specs.declared.log.LogEntry.{LogEntry}
use Rattle.nuc_log.specs.declared.reply.Reply.{Reply}
use Rattle.nuc_log.specs.declared.reply.Reply.TheVariants as reply
use Rattle.nuc_script.specs.Fitting.{FitsEdit, FitsWeb}
use Rattle.nuc_server.specs.declared.web_edit.WebEdit.{WebEdit}
use Rattle.nuc_step.specs.Planning.{CanPlan}
use Rattle.nuc_world.specs.Form.{IsWorld}
use Rattle.nuc_world.specs.State.{Turn, WorldState}
use Rattle.nuc_world.specs.Step.{Does, EditsWeb, IsStep, IsTurn, client_of}
use Rattle.nuc_world.proofs.Ready.{can_plan}
use Rattle.nuc_fit.specs.Bounds.{FitsEvent}
use Rattle.nuc_fit.proofs.NamesLooks.{plan_turn, scan_turn, watch_turn}
use Rattle.nuc_fit.proofs.NamesTakes.{take_turn}
use Rattle.nuc_fit.proofs.NamesTurns.{done_turn, list_turn, mark_turn, pull_turn, restart_turn, start_turn, user_turn}
use Rattle.nuc_fit.proofs.NamesWeb.{web_named}
use Rattle.nuc_fit.proofs.NamesWorld.{NamedMember, NamedTurn, NamedWorld, after_step, member_there, world_turned}

-- ONE TURN, by the event and its reply
module _ (log : List LogEntry) (most : ℕ) (t u : Turn) (named : NamedTurn most t) where
  user : (c : ℕ) (edit : UserEdit) (r : Reply) → FitsEdit edit → Does log (event.User c edit) r t u → NamedTurn (after_step most) u
  user c edit (reply.User answer) fits does = user_turn most t u named edit answer fits does
  user c edit (reply.Web answer) fits does = absurd does
  user c edit (reply.Listed changes items) fits does = absurd does
  user c edit (reply.Scan answer) fits does = absurd does
  user c edit (reply.Watch answer) fits does = absurd does
  user c edit reply.Nothing fits does = absurd does
  user c edit (reply.Pulled entries cursor) fits does = absurd does
  user c edit (reply.Plan answer) fits does = absurd does
  user c edit (reply.Started answer) fits does = absurd does
  user c edit (reply.Took answer) fits does = absurd does
  user c edit (reply.Done answer) fits does = absurd does
  user c edit reply.Restarted fits does = absurd does
  user c edit (reply.Marked answer) fits does = absurd does

  listing : (c : ℕ) (r : Reply) → Does log (event.List c) r t u → NamedTurn (after_step most) u
  listing c (reply.User answer) does = absurd does
  listing c (reply.Web answer) does = absurd does
  listing c (reply.Listed changes items) does = list_turn most t u named changes items does
  listing c (reply.Scan answer) does = absurd does
  listing c (reply.Watch answer) does = absurd does
  listing c reply.Nothing does = absurd does
  listing c (reply.Pulled entries cursor) does = absurd does
  listing c (reply.Plan answer) does = absurd does
  listing c (reply.Started answer) does = absurd does
  listing c (reply.Took answer) does = absurd does
  listing c (reply.Done answer) does = absurd does
  listing c reply.Restarted does = absurd does
  listing c (reply.Marked answer) does = absurd does

  scanning : (c : ℕ) (r : Reply) → Does log (event.Scan c) r t u → NamedTurn (after_step most) u
  scanning c (reply.User answer) does = absurd does
  scanning c (reply.Web answer) does = absurd does
  scanning c (reply.Listed changes items) does = absurd does
  scanning c (reply.Scan answer) does = scan_turn most t u named answer does
  scanning c (reply.Watch answer) does = absurd does
  scanning c reply.Nothing does = absurd does
  scanning c (reply.Pulled entries cursor) does = absurd does
  scanning c (reply.Plan answer) does = absurd does
  scanning c (reply.Started answer) does = absurd does
  scanning c (reply.Took answer) does = absurd does
  scanning c (reply.Done answer) does = absurd does
  scanning c reply.Restarted does = absurd does
  scanning c (reply.Marked answer) does = absurd does

  pull : (c : ℕ) (r : Reply) → Does log (event.Pull c) r t u → NamedTurn (after_step most) u
  pull c (reply.User answer) does = absurd does
  pull c (reply.Web answer) does = absurd does
  pull c (reply.Listed changes items) does = absurd does
  pull c (reply.Scan answer) does = absurd does
  pull c (reply.Watch answer) does = absurd does
  pull c reply.Nothing does = absurd does
  pull c (reply.Pulled entries cursor) does = pull_turn most t u named entries cursor does
  pull c (reply.Plan answer) does = absurd does
  pull c (reply.Started answer) does = absurd does
  pull c (reply.Took answer) does = absurd does
  pull c (reply.Done answer) does = absurd does
  pull c reply.Restarted does = absurd does
  pull c (reply.Marked answer) does = absurd does

  plan : (c : ℕ) (r : Reply) → CanPlan t.member.client t.shared.ids.next_id → most + (most + most) + 1 < 2 ^ 64 → Does log (event.Plan c) r t u → NamedTurn (after_step most) u
  plan c (reply.User answer) can few does = absurd does
  plan c (reply.Web answer) can few does = absurd does
  plan c (reply.Listed changes items) can few does = absurd does
  plan c (reply.Scan answer) can few does = absurd does
  plan c (reply.Watch answer) can few does = absurd does
  plan c reply.Nothing can few does = absurd does
  plan c (reply.Pulled entries cursor) can few does = absurd does
  plan c (reply.Plan answer) can few does = plan_turn most t u named answer can few does
  plan c (reply.Started answer) can few does = absurd does
  plan c (reply.Took answer) can few does = absurd does
  plan c (reply.Done answer) can few does = absurd does
  plan c reply.Restarted can few does = absurd does
  plan c (reply.Marked answer) can few does = absurd does

  starting : (c : ℕ) (n : ℕ) (r : Reply) → Does log (event.Start c n) r t u → NamedTurn (after_step most) u
  starting c n (reply.User answer) does = absurd does
  starting c n (reply.Web answer) does = absurd does
  starting c n (reply.Listed changes items) does = absurd does
  starting c n (reply.Scan answer) does = absurd does
  starting c n (reply.Watch answer) does = absurd does
  starting c n reply.Nothing does = absurd does
  starting c n (reply.Pulled entries cursor) does = absurd does
  starting c n (reply.Plan answer) does = absurd does
  starting c n (reply.Started answer) does = start_turn most t u named n answer does.0 does.1
  starting c n (reply.Took answer) does = absurd does
  starting c n (reply.Done answer) does = absurd does
  starting c n reply.Restarted does = absurd does
  starting c n (reply.Marked answer) does = absurd does

  taking : (c : ℕ) (n : ℕ) (r : Reply) → Does log (event.Take c n) r t u → NamedTurn (after_step most) u
  taking c n (reply.User answer) does = absurd does
  taking c n (reply.Web answer) does = absurd does
  taking c n (reply.Listed changes items) does = absurd does
  taking c n (reply.Scan answer) does = absurd does
  taking c n (reply.Watch answer) does = absurd does
  taking c n reply.Nothing does = absurd does
  taking c n (reply.Pulled entries cursor) does = absurd does
  taking c n (reply.Plan answer) does = absurd does
  taking c n (reply.Started answer) does = absurd does
  taking c n (reply.Took answer) does = take_turn most t u named log c n answer does
  taking c n (reply.Done answer) does = absurd does
  taking c n reply.Restarted does = absurd does
  taking c n (reply.Marked answer) does = absurd does

  ending : (c : ℕ) (n : ℕ) (r : Reply) → Does log (event.Done c n) r t u → NamedTurn (after_step most) u
  ending c n (reply.User answer) does = absurd does
  ending c n (reply.Web answer) does = absurd does
  ending c n (reply.Listed changes items) does = absurd does
  ending c n (reply.Scan answer) does = absurd does
  ending c n (reply.Watch answer) does = absurd does
  ending c n reply.Nothing does = absurd does
  ending c n (reply.Pulled entries cursor) does = absurd does
  ending c n (reply.Plan answer) does = absurd does
  ending c n (reply.Started answer) does = absurd does
  ending c n (reply.Took answer) does = absurd does
  ending c n (reply.Done answer) does = done_turn most t u named n answer does
  ending c n reply.Restarted does = absurd does
  ending c n (reply.Marked answer) does = absurd does

  restart : (c : ℕ) (r : Reply) → Does log (event.Restart c) r t u → NamedTurn (after_step most) u
  restart c (reply.User answer) does = absurd does
  restart c (reply.Web answer) does = absurd does
  restart c (reply.Listed changes items) does = absurd does
  restart c (reply.Scan answer) does = absurd does
  restart c (reply.Watch answer) does = absurd does
  restart c reply.Nothing does = absurd does
  restart c (reply.Pulled entries cursor) does = absurd does
  restart c (reply.Plan answer) does = absurd does
  restart c (reply.Started answer) does = absurd does
  restart c (reply.Took answer) does = absurd does
  restart c (reply.Done answer) does = absurd does
  restart c reply.Restarted does = restart_turn most t u named does
  restart c (reply.Marked answer) does = absurd does

  mark : (c : ℕ) (r : Reply) → Does log (event.Mark c) r t u → NamedTurn (after_step most) u
  mark c (reply.User answer) does = absurd does
  mark c (reply.Web answer) does = absurd does
  mark c (reply.Listed changes items) does = absurd does
  mark c (reply.Scan answer) does = absurd does
  mark c (reply.Watch answer) does = absurd does
  mark c reply.Nothing does = absurd does
  mark c (reply.Pulled entries cursor) does = absurd does
  mark c (reply.Plan answer) does = absurd does
  mark c (reply.Started answer) does = absurd does
  mark c (reply.Took answer) does = absurd does
  mark c (reply.Done answer) does = absurd does
  mark c reply.Restarted does = absurd does
  mark c (reply.Marked answer) does = mark_turn most t u named does.1

  does_named : CanPlan t.member.client t.shared.ids.next_id → most + (most + most) + 1 < 2 ^ 64 → (e : Event) (r : Reply) → FitsEvent e → Does log e r t u
      → NamedTurn (after_step most) u
  does_named can few (event.User c edit) r fits does = user c edit r fits does
  does_named can few (event.List c) r fits does = listing c r does
  does_named can few (event.Scan c) r fits does = scanning c r does
  does_named can few (event.Watch c) r fits does = watch_turn most t u named t.member.folder.pending r refl does
  does_named can few (event.Pull c) r fits does = pull c r does
  does_named can few (event.Plan c) r fits does = plan c r can few does
  does_named can few (event.Start c n) r fits does = starting c n r does
  does_named can few (event.Take c n) r fits does = taking c n r does
  does_named can few (event.Done c n) r fits does = ending c n r does
  does_named can few (event.Restart c) r fits does = restart c r does
  does_named can few (event.Mark c) r fits does = mark c r does
  does_named can few (event.Web edit) r fits does = absurd does

-- THE WORLD
module _ (log : List LogEntry) (most : ℕ) (w v : WorldState) (named : NamedWorld most w) (world : IsWorld w) (few : most + (most + most) + 1 < 2 ^ 64) where
  turn_named : (e : Event) (r : Reply) → FitsEvent e → IsTurn log e r w v → NamedWorld (after_step most) v
  turn_named e r fits turn =
      let t : Turn = record { shared = w.shared; member = turn.member } in
      let u : Turn = record { shared = v.shared; member = turn.after } in
      let its : NamedTurn most t = record { shared = named.shared; member = member_there (client_of e) w.members turn.member named.members turn.was } in
      world_turned most w v (client_of e) turn.member turn.after named turn.now
      (does_named log most t u its (can_plan w world (client_of e) turn.member turn.was) few e r fits turn.does)

  web_step : (edit : WebEdit) (r : Reply) → FitsWeb edit → EditsWeb edit r w v → NamedWorld (after_step most) v
  web_step edit (reply.User answer) fits is = absurd is
  web_step edit (reply.Web answer) fits (answers, known, now, journal) =
      let after = web_named w.shared v.shared named.shared.entries edit answer fits known answers in
      record {
        shared = record { entries = after.entries; next = let low = named.shared.next in let next = after.next in omega (arith, low, next) };
        members = subst (All NamedMember) (sym now) named.members;
      }
  web_step edit (reply.Listed changes items) fits is = absurd is
  web_step edit (reply.Scan answer) fits is = absurd is
  web_step edit (reply.Watch answer) fits is = absurd is
  web_step edit reply.Nothing fits is = absurd is
  web_step edit (reply.Pulled entries cursor) fits is = absurd is
  web_step edit (reply.Plan answer) fits is = absurd is
  web_step edit (reply.Started answer) fits is = absurd is
  web_step edit (reply.Took answer) fits is = absurd is
  web_step edit (reply.Done answer) fits is = absurd is
  web_step edit reply.Restarted fits is = absurd is
  web_step edit (reply.Marked answer) fits is = absurd is

  pub step_named : (e : Event) (r : Reply) → FitsEvent e → IsStep log w e r v → NamedWorld (after_step most) v
  step_named (event.User c edit) r fits step = turn_named (event.User c edit) r fits step
  step_named (event.List c) r fits step = turn_named (event.List c) r fits step
  step_named (event.Scan c) r fits step = turn_named (event.Scan c) r fits step
  step_named (event.Watch c) r fits step = turn_named (event.Watch c) r fits step
  step_named (event.Pull c) r fits step = turn_named (event.Pull c) r fits step
  step_named (event.Plan c) r fits step = turn_named (event.Plan c) r fits step
  step_named (event.Start c n) r fits step = turn_named (event.Start c n) r fits step
  step_named (event.Take c n) r fits step = turn_named (event.Take c n) r fits step
  step_named (event.Done c n) r fits step = turn_named (event.Done c n) r fits step
  step_named (event.Restart c) r fits step = turn_named (event.Restart c) r fits step
  step_named (event.Mark c) r fits step = turn_named (event.Mark c) r fits step
  step_named (event.Web edit) r fits step = web_step edit r fits step
