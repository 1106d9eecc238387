use Rattle.std.proofs.Common.{◌≡◌, ◌++◌, take}
use Rattle.std.specs.String.{string_bytes}
use Rattle.std.specs.FinMap.{keys}
use Rattle.std.specs.List.{flat_map}
use Rattle.nuc_report.specs.Report.{line_at}
use Rattle.nuc_report.proofs.trees.push_tree.Given as goal

abbrev pub invariant-loop-i : goal.invariant-loop-i
invariant-loop-i g l =
    string_bytes l.text ≡ string_bytes l.initial.text ++ flat_map (line_at (g.T.TreeLike.nodes l.tree)) (take l.i (keys (g.T.TreeLike.nodes l.tree)))
