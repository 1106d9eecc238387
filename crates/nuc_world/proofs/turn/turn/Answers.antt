use Rattle.std.proofs.Common.{subst, sym}
use Rattle.nuc_log.specs.declared.event.Event.{Event}
use Rattle.nuc_log.specs.declared.event.Event.TheVariants as event
use Rattle.nuc_log.specs.declared.reply.Reply.{Reply}
use Rattle.nuc_world.specs.Parts.{shared_now, turn_of}
use Rattle.nuc_world.specs.Step.{Does}
use Rattle.nuc_world.proofs.turn.turn.Goals as goal

pub returns-in-Ok-clause-ok : goal.returns-in-Ok-clause-ok
returns-in-Ok-clause-ok g c =
    let t = turn_of c.args.shared.now c.args.member.now.client c.args.member.now.folder in
    let u = turn_of c.args.shared.now c.list.new.member.client c.list.new.member.folder in
    let lists = c.in-Ok.ensures.ok (shared_now c.args.shared.now) in
    let answered = subst (λ (r : Reply). Does c.args.log.now (event.List c.in-List.client) r t u) (sym c.listed.ensures) lists in
    subst (λ (e : Event). Does c.args.log.now e c.listed.result t u) (sym c.in-List.is) answered
