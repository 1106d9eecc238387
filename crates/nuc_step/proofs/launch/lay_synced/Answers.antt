use Rattle.std.proofs.Common.{arith, rules}
use Rattle.nuc_step.proofs.Laying.{laid_all, laid_one, over_one}
use Rattle.nuc_step.proofs.launch.lay_synced.Goals as goal

pub loop-op-preserved : goal.loop-op-preserved
loop-op-preserved g c =
    let old = c.loop-op.invariant in
    let one = c.in_ok-lay_in_synced.ensures in
    let ops = c.args.ops.now in
    let i = c.loop-op.op-index in
    let new = c.lay_in_synced.new.synced in
    record {
      laid = laid_one ops i c.op-item.result c.loop-op-test.true c.op-item.is (λ op. op.synced) c.loop-op.synced.laid c.loop-op.synced.laid_then new.laid new.laid_then
          c.requires.apart one.one one.laid old.laid;
      over = over_one ops i c.op-item.result c.loop-op-test.true c.op-item.is c.args.synced.now.laid c.args.synced.now.laid_then
          c.loop-op.synced.laid c.loop-op.synced.laid_then new.laid new.laid_then old.over one.one;
      keeps = search rules;
    }

pub returns-clause-laid : goal.returns-clause-laid
returns-clause-laid g c = laid_all (λ op. op.synced) c.loop-op.synced.laid c.loop-op.op-index c.args.ops.now (omega arith) c.loop-op.invariant.laid
