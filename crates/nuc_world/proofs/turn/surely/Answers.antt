use Rattle.std.proofs.Common.{subst, sym}
use Rattle.nuc_log.specs.declared.event.Event.{Event}
use Rattle.nuc_log.specs.declared.reply.Reply.TheVariants as reply
use Rattle.nuc_world.specs.Parts.{shared_now, turn_of}
use Rattle.nuc_world.specs.Step.{Does}
use Rattle.nuc_world.proofs.turn.surely.Goals as goal

pub returns-in-Restart-clause-ok : goal.returns-in-Restart-clause-ok
returns-in-Restart-clause-ok g c =
    let t = turn_of c.args.shared.now c.args.member.now.client c.args.member.now.folder in
    let u = turn_of c.args.shared.now c.restart.new.member.client c.restart.new.member.folder in
    subst (λ (e : Event). Does c.args.log.now e reply.Restarted t u) (sym c.in-Restart.is) (c.restart.ensures.now (shared_now c.args.shared.now))
