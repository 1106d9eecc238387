use Rattle.std.proofs.Common.{◌+◌, false, drop, get_or, refl, arith}
use Rattle.std.proofs.lemmas.Result.{err_from_is_err_and}
use Rattle.nuc_sync.specs.Runs.{stays}
use Rattle.nuc_sync.specs.Tasks.{next}
use Rattle.nuc_sync.proofs.Carrying.{one_breaks, one_more}
use Rattle.nuc_sync.proofs.planning.carry_out.Goals as goal

pub loop-number-init : goal.loop-number-init
loop-number-init g c = stays c.args.world.now (next c.args.client c.args.backwards c.args.numbers.now false)

pub returns-in_err-applied-clause-err : goal.returns-in_err-applied-clause-err
returns-in_err-applied-clause-err g c =
    let ns = c.args.numbers.now in
    let i = c.loop-number.number-index in
    let p = err_from_is_err_and c.from_residual.result c.from_residual.ensures.1 in
    rw (p.1, p.2) (one_breaks c.args.client c.args.backwards ns i (get_or ns i 0) (omega arith) refl c.args.world.now c.loop-number.world c.carry_out_one.new.world
    (next c.args.client c.args.backwards ns false) c.loop-number.applied _ c.loop-number.invariant (c.in_err-applied.ensures.err c.args.backwards (drop (i + 1) ns)))

pub loop-number-preserved : goal.loop-number-preserved
loop-number-preserved g c =
    let ns = c.args.numbers.now in
    let i = c.loop-number.number-index in
    one_more c.args.client c.args.backwards ns i (get_or ns i 0) (omega arith) refl c.args.world.now c.loop-number.world c.carry_out_one.new.world
    (next c.args.client c.args.backwards ns false) c.loop-number.applied c.in_ok-applied.applied c.loop-number.invariant (c.in_ok-applied.ensures.ok c.args.backwards (drop (i + 1) ns))
