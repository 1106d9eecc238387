-- Whatever a client's step does, it loses nothing.
use Rattle.std.proofs.Common.{◌≡◌, ◌∙◌, ℕ, List, refl, ap}
use Rattle.nuc_base.specs.declared.node.Kind.{Kind}
use Rattle.nuc_log.specs.declared.event.Event.{Event}
use Rattle.nuc_log.specs.declared.event.Event.TheVariants as event
use Rattle.nuc_log.specs.declared.log.LogEntry.{LogEntry}
use Rattle.nuc_log.specs.declared.reply.Reply.{Reply}
use Rattle.nuc_log.specs.declared.reply.Reply.TheVariants as reply
use Rattle.nuc_world.specs.Form.{IsMember, IsShared}
use Rattle.nuc_world.specs.State.{Turn}
use Rattle.nuc_world.specs.Step.{Does}
use Rattle.nuc_world.proofs.AccountedDones.{done_fares}
use Rattle.nuc_world.proofs.AccountedForm.{Fares, IsClear, IsKeptJournal}
use Rattle.nuc_world.proofs.AccountedPlans.{plan_fares}
use Rattle.nuc_world.proofs.AccountedQuiet.{fares_same, pull_fares, restart_fares, start_fares}
use Rattle.nuc_world.proofs.AccountedScanned.{scan_fares}
use Rattle.nuc_world.proofs.AccountedTaken.{take_fares}
use Rattle.nuc_world.proofs.AccountedWatched.{watch_fares}
use Rattle.nuc_world.proofs.Ready.{member_can_plan, member_can_watch}

module _ (log : List LogEntry) (t u : Turn) (kinds : ℕ → Kind) (shared : IsShared t.shared kinds) (member : IsMember t.shared kinds t.member)
    (journal : IsKeptJournal t.shared) (clear : IsClear t.shared t.member.client) where
  beside : (v : Turn) → u ≡ v → v.shared ≡ t.shared → v.member.client ≡ t.member.client → Fares t u
  beside v now same client = fares_same t u (ap (λ (w : Turn). w.shared) now ∙ same) (ap (λ (w : Turn). w.member.client) now ∙ client) journal clear

  pub does_fare : (e : Event) (r : Reply) → Does log e r t u → Fares t u
  does_fare (event.User c edit) (reply.User answer) does = beside _ does.2 refl refl
  does_fare (event.User c edit) _ does = absurd does
  does_fare (event.List c) (reply.Listed changes items) does = beside _ does.now refl refl
  does_fare (event.List c) _ does = absurd does
  does_fare (event.Scan c) (reply.Scan answer) does = scan_fares t u journal member.client.local (member_can_watch t.shared kinds t.member member shared) clear answer does
  does_fare (event.Scan c) _ does = absurd does
  does_fare (event.Watch c) r does =
      let can = member_can_watch t.shared kinds t.member member shared in
      watch_fares t u journal member.client.local.form can.fit.local shared.next_ver.some clear t.member.folder.pending r does
  does_fare (event.Pull c) (reply.Pulled entries cursor) does = pull_fares t u journal clear entries cursor member.at does
  does_fare (event.Pull c) _ does = absurd does
  does_fare (event.Plan c) (reply.Plan answer) does = plan_fares t u journal member.at (member_can_plan t.shared kinds t.member member) clear answer does
  does_fare (event.Plan c) _ does = absurd does
  does_fare (event.Start c n) (reply.Started answer) does = start_fares t u journal clear n answer does.0 does.1
  does_fare (event.Start c n) _ does = absurd does
  does_fare (event.Take c n) (reply.Took answer) does = take_fares log c n t u shared.journal journal clear answer does
  does_fare (event.Take c n) _ does = absurd does
  does_fare (event.Done c n) (reply.Done answer) does = done_fares t journal member.at member.client clear n answer u does
  does_fare (event.Done c n) _ does = absurd does
  does_fare (event.Restart c) reply.Restarted does = restart_fares t u journal clear does
  does_fare (event.Restart c) _ does = absurd does
  does_fare (event.Mark c) (reply.Marked answer) does = beside t does.1 refl refl
  does_fare (event.Mark c) _ does = absurd does
  does_fare (event.Web edit) r does = absurd does
