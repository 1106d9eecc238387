use Rattle.std.proofs.Common.{◌≤◌, ◌∙◌, arith, length, sym}
use Rattle.std.specs.FinMap as map
use Rattle.nuc_observe.proofs.Distinct.{keys_long}
use Rattle.nuc_step.specs.Scanning.{is_absent}
use Rattle.nuc_step.proofs.Counted.{counted_all, counted_else, counted_then}
use Rattle.nuc_step.proofs.changed_count.new_count.Goals as goal
use Rattle.nuc_step.proofs.changed_count.new_count.Goals.{else-is_absent, then-is_absent}

pub loop-i-preserved : goal.loop-i-preserved
loop-i-preserved g c =
    let p = is_absent (g.T.TreeLike.nodes c.args.before.now) in
    let xs = map.keys (g.T.TreeLike.nodes c.args.after.now) in
    let inv = c.loop-i.invariant in
    let few = inv.few in
    record {
      counted = elim c.if-is_absent.branch [
        | then-is_absent w ↦ counted_then p xs c.loop-i.i c.nth-id.result.0 c.loop-i.count c.if-is_absent.count c.nth-id.ensures inv.counted (sym c.is_absent.ensures ∙ w.if-is_absent.true) w.count-is
        | else-is_absent w ↦ counted_else p xs c.loop-i.i c.nth-id.result.0 c.loop-i.count c.if-is_absent.count c.nth-id.ensures inv.counted (sym c.is_absent.ensures ∙ w.if-is_absent.false) w.count-is
      ];
      few = elim c.if-is_absent.branch [
        | then-is_absent w ↦ (let is = w.count-is in omega (arith, is, few))
        | else-is_absent w ↦ (let is = w.count-is in omega (arith, is, few))
      ];
    }

pub returns : goal.returns
returns g c =
    let m = g.T.TreeLike.nodes c.args.after.now in
    let all : length (map.keys m) ≤ c.loop-i.i = omega (arith, keys_long m, c.len-i-end.ensures, c.loop-i-test.false) in
    counted_all (is_absent (g.T.TreeLike.nodes c.args.before.now)) (map.keys m) c.loop-i.i c.loop-i.count all c.loop-i.invariant.counted
