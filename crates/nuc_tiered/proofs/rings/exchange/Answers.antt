use Rattle.std.proofs.Common.{◌≡◌, ◌<◌, ◌+◌, suc, length, get_or, set, sym, ap, ap₂, ◌∙◌, arith}
use Rattle.std.specs.List.{insert}
use Rattle.nuc_tiered.specs.Rings.{row}
use Rattle.nuc_tiered.proofs.Hands.{up, down}
use Rattle.nuc_tiered.proofs.Cells.{row_set, row_at, row_length}
use Rattle.nuc_tiered.proofs.rings.exchange.Goals as goal

-- what stands there afterwards, and what is in hand
after : (c : goal.After-replace) → row (set c.args.cells.now c.cell_of-at.result c.replace.new.dest) c.args.heads.now ≡ set (row c.args.cells.now c.args.heads.now) c.args.p c.args.hand
after c =
    ap₂ (λ at x. row (set c.args.cells.now at x) c.args.heads.now) c.cell_of-at.ensures.value c.replace.ensures.after
    ∙ row_set _ _ _ _ c.requires.form c.requires.within

value : (c : goal.After-replace) → c.replace.result ≡ get_or (row c.args.cells.now c.args.heads.now) c.args.p 0
value c = c.replace.ensures.value ∙ ap (λ at. get_or c.args.cells.now at 0) c.cell_of-at.ensures.value ∙ sym (row_at _ _ c.args.p 0 c.requires.within)

pub returns-clause-up : goal.returns-clause-up
returns-clause-up c =
    let long : c.args.p < length (row c.args.cells.now c.args.heads.now) = omega (arith, row_length c.args.cells.now c.args.heads.now) in
    let next : c.args.p + 1 ≡ suc c.args.p = omega arith in
    ap (λ l. insert l (c.args.p + 1) c.replace.result) (after c)
    ∙ ap₂ (λ p x. insert (set (row c.args.cells.now c.args.heads.now) c.args.p c.args.hand) p x) next (value c)
    ∙ up _ c.args.p c.args.hand 0 long

pub returns-clause-down : goal.returns-clause-down
returns-clause-down c =
    let long : c.args.p < length (row c.args.cells.now c.args.heads.now) = omega (arith, row_length c.args.cells.now c.args.heads.now) in
    let next : suc c.args.p ≡ c.args.p + 1 = omega arith in
    ap₂ (λ l x. insert l c.args.p x) (after c) (value c)
    ∙ down _ c.args.p c.args.hand 0 long
    ∙ ap (λ p. insert (row c.args.cells.now c.args.heads.now) p c.args.hand) next
