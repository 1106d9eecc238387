use Rattle.std.proofs.Common.{◌∙◌, ap}
use Rattle.std.specs.FinMap.{get}
use Rattle.nuc_step.proofs.Leading.{turned_differs}
use Rattle.nuc_step.proofs.turning.is_turned_by.Goals as goal

pub returns : goal.returns
returns g c =
    turned_differs c.value_eq.result c.args.local.now.now c.args.id.0 c.args.turn.now _ _
    (c.get.ensures ∙ ap (λ m. get m c.args.id.0) c.tree.ensures.nodes) c.node_after.ensures c.value_eq.ensures.tells
