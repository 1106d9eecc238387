use Rattle.std.proofs.Common.{◌∙◌}
use Rattle.nuc_base.specs.SamePlace.{name_order-bytes}
use Rattle.nuc_base.proofs.name.Name.order.Goals as goal

pub returns : goal.returns
returns c =
    let a = c.bytes.ensures.value in
    let b = c.bytes-2.ensures.value in
    rw (← a, ← b) (c.cmp.ensures ∙ name_order-bytes _ _)
