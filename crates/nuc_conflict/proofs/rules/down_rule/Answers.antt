use Rattle.std.proofs.Common.{sym}
use Rattle.std.proofs.lemmas.Result.{IfOk-weaker}
use Rattle.nuc_conflict.proofs.InTheWay.{down_rule_of}
use Rattle.nuc_conflict.proofs.rules.down_rule.Goals as goal

pub returns : goal.returns
returns g c =
    let nodes = g.T.TreeLike.nodes in
    IfOk-weaker c.clear_down.result _ _
    (λ remedy clears. down_rule_of (g.H.Hashes.same c.args.h.now) (nodes c.args.r.now) (nodes c.args.l.now) (nodes c.args.s.now) c.in-Some.id.0
    c.in-Some-get.node.now remedy c.requires.remote c.in-Some.ensures (sym c.in-Some-get.ensures) clears) c.clear_down.ensures
