use Rattle.std.specs.Prelude.{OnErr}
use Rattle.std.proofs.Common.{◌≡◌, ◌∙◌, List, refl, subst}
use Rattle.nuc_log.specs.declared.log.LogEntry.{LogEntry}
use Rattle.nuc_world.specs.Parts.{member_now, member_then, shared_now, shared_then, turn_of}
use Rattle.nuc_world.specs.State.{Turn}
use Rattle.nuc_world.specs.Step.{Does}
use Rattle.nuc_world.proofs.Refused.{full_turn, same_turns, undone_turn}
use Rattle.nuc_world.proofs.stepping.step_member.Goals as goal

pub returns-then-is_full-clause-err : goal.returns-then-is_full-clause-err
returns-then-is_full-clause-err g c =
    let t = turn_of c.args.shared.now c.args.member.now.client c.args.member.now.folder in
    ((full_turn c.args.book.now c.args.event t c.if-is_full.ensures, refl), refl)

pub returns-in-Ok-clause-err : goal.returns-in-Ok-clause-err
returns-in-Ok-clause-err g c =
    let t = turn_of c.args.shared.now c.args.member.now.client c.args.member.now.folder in
    let u = turn_of c.turn.new.shared c.turn.new.member.client c.turn.new.member.folder in
    let v = turn_of c.enter_turn.new.shared c.enter_turn.new.member.client c.enter_turn.new.member.folder in
    let does = subst (λ (log : List LogEntry). Does log c.args.event c.in-Ok.reply t u) c.log.ensures.log c.in-Ok.ensures.ok in
    let shared = c.turn.ensures.shared_settled ∙ c.requires.shared_settled in
    let member = c.turn.ensures.settled ∙ c.requires.settled in
    let back = same_turns (shared_then c.turn.new.shared) (shared_now c.args.shared.now)
    (member_then c.turn.new.member.client c.turn.new.member.folder) (member_now c.args.member.now.client c.args.member.now.folder) shared member in
    undone_turn c.args.book.now c.enter_turn.new.book c.args.event c.in-Ok.reply t u v does c.enter_turn.result c.enter_turn.ensures.err
    (subst (λ (x : Turn). OnErr c.enter_turn.result (v ≡ x)) back c.enter_turn.ensures.back) c.enter_turn.ensures.why
