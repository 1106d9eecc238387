use Rattle.std.proofs.Common.{◌+◌, arith}
use Rattle.nuc_conflict.proofs.FreeNames.{one_unused, still_taken}
use Rattle.nuc_conflict.proofs.naming.free_name.Goals as goal

pub returns-then-is_unused : goal.returns-then-is_unused
returns-then-is_unused g c = record {
  number = c.loop-tried.tried + 1;
  counted = omega arith;
  is = c.in_ok-copy.ensures;
  unused = c.if-is_unused.ensures;
  first = λ k some below. c.loop-tried.invariant k some (omega (arith, below));
}

pub loop-tried-preserved : goal.loop-tried-preserved
loop-tried-preserved g c =
    let nodes = g.T.TreeLike.nodes in
    still_taken (nodes c.args.r.now) (nodes c.args.l.now) (nodes c.args.s.now) c.args.parent.0 c.args.name.now c.loop-tried.tried c.in_ok-copy.copy
    c.in_ok-copy.ensures c.if-is_unused.ensures c.loop-tried.invariant

pub unreachable-requires : goal.unreachable-requires
unreachable-requires g c =
    let nodes = g.T.TreeLike.nodes in
    let free = one_unused (nodes c.args.r.now) (nodes c.args.l.now) (nodes c.args.s.now) c.args.parent.0 c.args.name.now c.loop-tried.tried (omega (arith, c.in_ok-tried-end.ensures, c.loop-tried-test.false)) (omega arith) in
    c.loop-tried.invariant free.0 free.1 free.2 free.3
