use Rattle.std.proofs.Common.{sym, rules}
use Rattle.nuc_conflict.proofs.Search.{topmost_found, none_found, past_end}
use Rattle.nuc_conflict.proofs.topmost.topmost.Goals as goal

pub returns-in_default : goal.returns-in_default
returns-in_default g c =
    absurd (past_end (g.T.TreeLike.nodes c.args.tree.now) c.loop-i.i (search rules) (sym c.in_default.ensures))

pub returns-in-Some-best : goal.returns-in-Some-best
returns-in-Some-best g c =
    let nodes = g.T.TreeLike.nodes in
    topmost_found (g.H.Hashes.same c.args.h.now) (nodes c.args.r.now) (nodes c.args.l.now) (nodes c.args.s.now) (nodes c.args.tree.now) c.args.wanted
    c.loop-i.i c.loop-i.best c.in-Some-best.found (search rules) c.in-Some-best.is c.loop-i.invariant

pub returns-in-None : goal.returns-in-None
returns-in-None g c =
    let nodes = g.T.TreeLike.nodes in
    none_found (g.H.Hashes.same c.args.h.now) (nodes c.args.r.now) (nodes c.args.l.now) (nodes c.args.s.now) (nodes c.args.tree.now) c.args.wanted
    c.loop-i.i c.loop-i.best (search rules) c.in-None.is c.loop-i.invariant
