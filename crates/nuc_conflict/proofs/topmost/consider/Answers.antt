use Rattle.nuc_base.proofs.Order.{nth_there}
use Rattle.nuc_conflict.proofs.Search.{topmost_passed, topmost_kept, topmost_new}
use Rattle.nuc_conflict.proofs.topmost.consider.Goals as goal

pub returns-then-not-wishes : goal.returns-then-not-wishes
returns-then-not-wishes g c =
    let nodes = g.T.TreeLike.nodes in
    topmost_passed (g.H.Hashes.same c.args.h.now) (nodes c.args.r.now) (nodes c.args.l.now) (nodes c.args.s.now) (nodes c.args.tree.now) c.args.wanted c.args.i
    c.args.id.0 c.args.best c.requires.at c.if-not-wishes.ensures c.requires.so_far

pub depth_of-depth-requires-clause-there : goal.depth_of-depth-requires-clause-there
depth_of-depth-requires-clause-there g c = nth_there _ c.args.i c.args.id.0 c.requires.at

pub returns-then-is_as_high : goal.returns-then-is_as_high
returns-then-is_as_high g c =
    let nodes = g.T.TreeLike.nodes in
    topmost_kept (g.H.Hashes.same c.args.h.now) (nodes c.args.r.now) (nodes c.args.l.now) (nodes c.args.s.now) (nodes c.args.tree.now) c.args.wanted c.args.i
    c.args.id.0 c.depth_of-depth.result c.args.best c.requires.tree c.requires.at c.depth_of-depth.ensures c.if-is_as_high.ensures c.requires.so_far

pub returns-else-is_as_high : goal.returns-else-is_as_high
returns-else-is_as_high g c =
    let nodes = g.T.TreeLike.nodes in
    topmost_new (g.H.Hashes.same c.args.h.now) (nodes c.args.r.now) (nodes c.args.l.now) (nodes c.args.s.now) (nodes c.args.tree.now) c.args.wanted c.args.i
    (record { id = c.args.id; depth = c.depth_of-depth.result }) c.args.best c.requires.tree c.requires.at c.if-not-wishes.ensures c.depth_of-depth.ensures
    c.if-is_as_high.ensures c.requires.so_far
