-- A step of a world that a log leads to has one end.
use Rattle.std.proofs.Common.{◌≡◌, List, Some, sym, ◌∙◌, ap, subst}
use Rattle.nuc_journal.proofs.Journals.{form_of}
use Rattle.nuc_log.specs.declared.event.Event.{Event}
use Rattle.nuc_log.specs.declared.event.Event.TheVariants as event
use Rattle.nuc_log.specs.declared.log.LogEntry.{LogEntry}
use Rattle.nuc_log.specs.declared.reply.Reply.{Reply}
use Rattle.nuc_log.specs.declared.reply.Reply.TheVariants as reply
use Rattle.nuc_server.specs.declared.web_edit.WebEdit.{WebEdit}
use Rattle.nuc_server.proofs.OneAnswer.{one_web_answer}
use Rattle.nuc_world.specs.Form.{IsWorld}
use Rattle.nuc_world.specs.OneEnd.{StepsHaveOneEnd}
use Rattle.nuc_world.specs.Runs.{Reaches}
use Rattle.nuc_world.specs.State.{Turn, WorldState, with_member}
use Rattle.nuc_world.specs.Step.{Does, EditsWeb, IsTurn, client_of}
use Rattle.nuc_world.proofs.FoldersDiffer.{reached_apart}
use Rattle.nuc_world.proofs.Grown.{its_member}
use Rattle.nuc_world.proofs.OneTurn.{does_one}
use Rattle.nuc_world.proofs.Reached.{reached_world}

world_one : (v u : WorldState) → v.shared ≡ u.shared → v.members ≡ u.members → v ≡ u
world_one v u shared members = λ x. record { shared = shared x; members = members x }

web_one : (edit : WebEdit) (w v u : WorldState) (r q : Reply) → IsWorld w → EditsWeb edit r w v → EditsWeb edit q w u → (r ≡ q) × (v ≡ u)
web_one edit w v u (reply.Web a) (reply.Web b) world x y =
    let one = one_web_answer w.shared v.shared u.shared edit a b (form_of w.shared.entries world.shared.journal) x.1 y.1 x.0 y.0 in
    (ap reply.Web one.0, world_one v u one.1 (x.2 ∙ sym y.2))
web_one edit w v u (reply.Web a) _ world x y = absurd y
web_one edit w v u _ q world x y = absurd x

module _ (log : List LogEntry) (w v u : WorldState) (r q : Reply) (reaches : Reaches log w) where
  turn_end : (e : Event) → IsTurn log e r w v → IsTurn log e q w u → (r ≡ q) × (v ≡ u)
  turn_end e is was =
      let world = reached_world log w reaches in
      let found : Some is.member ≡ Some was.member = sym is.was ∙ was.was in
      let same : is.member ≡ was.member = cc in
      let does : Does log e r (record { shared = w.shared; member = was.member }) (record { shared = v.shared; member = is.after }) =
      subst (λ m. Does log e r (record { shared = w.shared; member = m }) (record { shared = v.shared; member = is.after })) same is.does in
      let one = does_one (record { shared = w.shared; member = was.member }) (record { shared = v.shared; member = is.after }) (record { shared = u.shared; member = was.after })
      world.kind_of world.shared (its_member w world (client_of e) was.member was.was) log e r q (reached_apart log w reaches (client_of e) was.member was.was) does was.does in (
        one.0,
        world_one v u (ap (λ (t : Turn). t.shared) one.1)
            (is.now ∙ ap (λ (t : Turn). with_member (client_of e) t.member w.members) one.1 ∙ sym was.now),
      )

pub one_end : StepsHaveOneEnd
one_end log w v u (event.Web edit) r q reaches x y = web_one edit w v u r q (reached_world log w reaches) x y
one_end log w v u (event.User d edit) r q reaches x y = turn_end log w v u r q reaches (event.User d edit) x y
one_end log w v u (event.List d) r q reaches x y = turn_end log w v u r q reaches (event.List d) x y
one_end log w v u (event.Scan d) r q reaches x y = turn_end log w v u r q reaches (event.Scan d) x y
one_end log w v u (event.Watch d) r q reaches x y = turn_end log w v u r q reaches (event.Watch d) x y
one_end log w v u (event.Pull d) r q reaches x y = turn_end log w v u r q reaches (event.Pull d) x y
one_end log w v u (event.Plan d) r q reaches x y = turn_end log w v u r q reaches (event.Plan d) x y
one_end log w v u (event.Start d n) r q reaches x y = turn_end log w v u r q reaches (event.Start d n) x y
one_end log w v u (event.Take d n) r q reaches x y = turn_end log w v u r q reaches (event.Take d n) x y
one_end log w v u (event.Done d n) r q reaches x y = turn_end log w v u r q reaches (event.Done d n) x y
one_end log w v u (event.Restart d) r q reaches x y = turn_end log w v u r q reaches (event.Restart d) x y
one_end log w v u (event.Mark d) r q reaches x y = turn_end log w v u r q reaches (event.Mark d) x y
