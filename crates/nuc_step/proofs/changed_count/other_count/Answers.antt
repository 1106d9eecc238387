use Rattle.std.proofs.Common.{◌≤◌, ◌∙◌, arith, length, sym}
use Rattle.std.specs.FinMap as map
use Rattle.nuc_observe.proofs.Distinct.{keys_long}
use Rattle.nuc_step.specs.Scanning.{is_other}
use Rattle.nuc_step.proofs.Counted.{counted_all, counted_else, counted_then}
use Rattle.nuc_step.proofs.changed_count.other_count.Goals as goal
use Rattle.nuc_step.proofs.changed_count.other_count.Goals.{else-is_other, then-is_other}

pub loop-i-preserved : goal.loop-i-preserved
loop-i-preserved g c =
    let p = is_other (g.T.TreeLike.nodes c.args.before.now) (g.T.TreeLike.nodes c.args.after.now) in
    let xs = map.keys (g.T.TreeLike.nodes c.args.before.now) in
    let inv = c.loop-i.invariant in
    let few = inv.few in
    record {
      counted = elim c.if-is_other.branch [
        | then-is_other w ↦ counted_then p xs c.loop-i.i c.nth-id.result.0 c.loop-i.count c.if-is_other.count c.nth-id.ensures inv.counted (sym c.is_other.ensures ∙ w.if-is_other.true) w.count-is
        | else-is_other w ↦ counted_else p xs c.loop-i.i c.nth-id.result.0 c.loop-i.count c.if-is_other.count c.nth-id.ensures inv.counted (sym c.is_other.ensures ∙ w.if-is_other.false) w.count-is
      ];
      few = elim c.if-is_other.branch [
        | then-is_other w ↦ (let is = w.count-is in omega (arith, is, few))
        | else-is_other w ↦ (let is = w.count-is in omega (arith, is, few))
      ];
    }

pub returns : goal.returns
returns g c =
    let m = g.T.TreeLike.nodes c.args.before.now in
    let all : length (map.keys m) ≤ c.loop-i.i = omega (arith, keys_long m, c.len-i-end.ensures, c.loop-i-test.false) in
    counted_all (is_other (g.T.TreeLike.nodes c.args.before.now) (g.T.TreeLike.nodes c.args.after.now)) (map.keys m) c.loop-i.i c.loop-i.count all c.loop-i.invariant.counted
