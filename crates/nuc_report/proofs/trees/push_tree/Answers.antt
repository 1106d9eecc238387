use Rattle.std.proofs.Common.{◌≡◌, ap, ◌∙◌, ◌++◌, arith}
use Rattle.std.specs.FinMap.{keys, len}
use Rattle.std.specs.List.{flat_map}
use Rattle.std.specs.String.{string_bytes}
use Rattle.nuc_report.specs.Report.{line_at}
use Rattle.nuc_report.proofs.Walk.{walked, all_keys}
use Rattle.nuc_report.proofs.trees.push_tree.Goals as goal

pub loop-i-preserved : goal.loop-i-preserved
loop-i-preserved g c =
    let nodes = g.T.TreeLike.nodes c.args.tree.now in
    walked (line_at nodes) (keys nodes) c.loop-i.i _ _ _ c.loop-i.invariant c.in_ok-push_nth.ensures

pub returns : goal.returns
returns g c =
    let nodes = g.T.TreeLike.nodes c.args.tree.now in
    let all : c.loop-i.i ≡ len nodes = omega (arith, c.len-i-end.ensures) in
    c.loop-i.invariant ∙ ap (λ ids. string_bytes c.args.text.now ++ flat_map (line_at nodes) ids) (all_keys nodes c.loop-i.i all)
