use Rattle.std.proofs.Common.{◌≡◌, sym, subst, rules}
use Rattle.std.specs.FinMap as map
use Rattle.nuc_class.specs.Wishes.{IsWish}
use Rattle.nuc_class.specs.declared.wishes.Wish.TheVariants as wish
use Rattle.nuc_conflict.proofs.Search.{NoneBefore, least_split, no_split, past_end}
use Rattle.nuc_conflict.proofs.topmost.least_split.Goals as goal

pub returns-in_default : goal.returns-in_default
returns-in_default g c =
    absurd (past_end (g.T.TreeLike.nodes c.args.r.now) c.loop-i.i (search rules) (sym c.in_default.ensures))

pub returns-then-needs_split : goal.returns-then-needs_split
returns-then-needs_split g c =
    let nodes = g.T.TreeLike.nodes in
    let wished : IsWish (g.H.Hashes.same c.args.h.now) (nodes c.args.r.now) (nodes c.args.l.now) (nodes c.args.s.now) c.in-Some.id.0 wish.Split = search rules in
    least_split (g.H.Hashes.same c.args.h.now) (nodes c.args.r.now) (nodes c.args.l.now) (nodes c.args.s.now) c.loop-i.i c.in-Some.id.0
    (sym c.in-Some.ensures) wished c.loop-i.invariant

pub returns : goal.returns
returns g c =
    let nodes = g.T.TreeLike.nodes in
    let all : c.loop-i.i ≡ map.len (nodes c.args.r.now) = search rules in
    no_split (g.H.Hashes.same c.args.h.now) (nodes c.args.r.now) (nodes c.args.l.now) (nodes c.args.s.now)
    (subst (λ i. NoneBefore (g.H.Hashes.same c.args.h.now) (nodes c.args.r.now) (nodes c.args.l.now) (nodes c.args.s.now) (nodes c.args.r.now) wish.Split i)
    all c.loop-i.invariant)
