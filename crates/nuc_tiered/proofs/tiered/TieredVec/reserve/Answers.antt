use Rattle.std.proofs.Common.{◌≡◌, ◌≤◌, ◌-◌, ◌+◌, ◌/◌, ◌++◌, take, replicate, length, ap, ap₂, ◌∙◌, arith}
use Rattle.std.proofs.lemmas.Grind.{common_steps}
use Rattle.nuc_tiered.specs.Rings.{row}
use Rattle.nuc_tiered.proofs.Cells.{row_resized}
use Rattle.nuc_tiered.proofs.tiered.TieredVec.reserve.Goals as goal

pub returns-clause-items : goal.returns-clause-items
returns-clause-items c =
    let room = c.in_ok-cells.cells in
    let blocks = c.len-2.result + ((c.args.n - (c.len.result - c.self.inside.len) - 1) / 512 + 1) in
    let long : length c.self.inside.cells.items ≤ room = grind (arith, common_steps) in
    let longer : length c.self.inside.heads.items ≤ blocks = omega arith in
    let heads : c.resize-2.new.self.items ≡ take blocks c.reserve.new.self.items ++ replicate (blocks - c.reserve.new.self.len) 0 = c.in-Ok.ensures.items in
    ap₂ (λ a b. take c.self.inside.len (row a b)) c.in_ok-resize.ensures.items
    (heads ∙ ap (λ l. take blocks l ++ replicate (blocks - c.reserve.new.self.len) 0) c.reserve.ensures.items)
    ∙ row_resized _ _ _ _ c.self.inside.len room blocks c.self.invariant.rings c.self.invariant.within long longer
    ∙ ap (λ s. s.items) c.self.view_is
