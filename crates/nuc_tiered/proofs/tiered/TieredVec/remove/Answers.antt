use Rattle.std.proofs.Common.{◌≡◌, ◌≤◌, ◌-◌, suc, take, length, sym, ap, ap₂, ◌∙◌, arith}
use Rattle.std.specs.List.{insert, remove}
use Rattle.nuc_tiered.specs.Rings.{row}
use Rattle.nuc_tiered.proofs.Hands.{removed, written}
use Rattle.nuc_tiered.proofs.Cells.{items_length, row_length}
use Rattle.nuc_tiered.proofs.tiered.TieredVec.remove.Goals as goal

pub returns-clause-items : goal.returns-clause-items
returns-clause-items c =
    let n = c.self.inside.len in
    let old = row c.self.inside.cells.items c.self.inside.heads.items in
    let new = row c.move_down-result.new.cells c.move_down-result.new.heads in
    let items_are = ap (λ s. s.items) c.self.view_is in
    let within = c.self.invariant.within in
    let some : suc c.args.i ≤ n = omega (arith, items_length _ _ n c.self.invariant, ap length items_are) in
    let last : suc (n - 1) ≡ n = omega arith in
    let long : length new ≡ length old =
    row_length _ c.move_down-result.new.heads ∙ c.move_down-result.ensures.length ∙ ap length c.deref_mut.ensures.value ∙ sym (row_length _ c.self.inside.heads.items) in
    ap₂ (λ a b. take (n - 1) (row a b)) (written c.move_down-result.new.cells _ _ (c.move_down-result.ensures.length ∙ c.deref_mut.ensures.len))
    (written c.move_down-result.new.heads _ _ (omega (arith, c.deref_mut-2.ensures.len)))
    ∙ removed old new c.args.i (n - 1) c.reach-end.result 0 c.move_down-result.result (omega arith) (omega (arith, c.reach-end.ensures.behind))
    (omega (arith, c.reach-end.ensures.within, row_length c.self.inside.cells.items c.self.inside.heads.items)) long (
    c.move_down-result.ensures.row
    ∙ ap₂ (λ a b. insert (row a b) c.reach-end.result 0) c.deref_mut.ensures.value c.deref_mut-2.ensures.value
    )
    ∙ ap (λ m. remove (take m old) c.args.i) last ∙ ap (λ l. remove l c.args.i) items_are
