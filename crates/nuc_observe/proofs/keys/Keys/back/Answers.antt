use Rattle.std.proofs.Common.{◌∙◌, ap, arith, length, length-append, ◌∷◌, []}
use Rattle.nuc_lookup.proofs.Ends.{ended}
use Rattle.nuc_observe.proofs.keys.Keys.back.Goals as goal

pub loop-preserved : goal.loop-preserved
loop-preserved c =
    let left = c.loop.invariant.left in
    let end = c.loop.invariant.end in
    let some = ended c.loop.self.past (omega (arith, c.loop-test.true)) in
    let done = c.undo_last.ensures.last some.0 some.1 some.2 in
    let long = ap length some.2 ∙ length-append some.0 (some.1 ∷ []) in
    let fewer = ap length done.0 in
    let before = c.loop.invariant.spare in
    record {
      settled = c.undo_last.ensures.settled ∙ c.loop.invariant.settled;
      end = end;
      left = omega (arith, long, fewer);
      spare = omega (arith, long, fewer, c.undo_last.ensures.spare);
    }
