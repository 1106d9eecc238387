use Rattle.std.proofs.Common.{◌≡◌, ◌≤◌, ◌+◌, suc, take, length, ap, ap₂, ◌∙◌, arith}
use Rattle.std.specs.List.{insert}
use Rattle.nuc_tiered.specs.Rings.{row}
use Rattle.nuc_tiered.proofs.Hands.{inserted, written}
use Rattle.nuc_tiered.proofs.Cells.{items_length, row_length}
use Rattle.nuc_tiered.proofs.tiered.TieredVec.insert.Goals as goal

pub returns-clause-items : goal.returns-clause-items
returns-clause-items c =
    let n = c.self.inside.len in
    let items_are = ap (λ s. s.items) c.self.view_is in
    let spare_is = ap (λ s. s.spare) c.self.view_is in
    let next : n + 1 ≡ suc n = omega arith in
    let le : c.args.i ≤ n = omega (arith, items_length _ _ n c.self.invariant, ap length items_are) in
    let behind : suc n ≤ c.reach-end.result = omega (arith, c.reach-end.ensures.behind) in
    let within : c.reach-end.result ≤ length (row c.move_up.new.cells c.move_up.new.heads) = omega
    (arith, row_length c.move_up.new.cells c.move_up.new.heads, ap length c.deref_mut.ensures.value, c.reach-end.ensures.within) in
    ap₂ (λ a b. take (n + 1) (row a b)) (written c.move_up.new.cells _ _ (c.move_up.ensures.length ∙ c.deref_mut.ensures.len))
    (written c.move_up.new.heads _ _ (omega (arith, c.deref_mut-2.ensures.len)))
    ∙ ap (λ m. take m (row c.move_up.new.cells c.move_up.new.heads)) next
    ∙ inserted (row c.self.inside.cells.items c.self.inside.heads.items) _ c.args.i n c.reach-end.result c.args.x c.move_up.result le behind within (
    c.move_up.ensures.row
    ∙ ap₂ (λ a b. insert (row a b) c.args.i c.args.x) c.deref_mut.ensures.value c.deref_mut-2.ensures.value
    )
    ∙ ap (λ l. insert l c.args.i c.args.x) items_are
