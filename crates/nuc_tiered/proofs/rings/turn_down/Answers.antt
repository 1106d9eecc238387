use Rattle.std.proofs.Common.{◌*◌, ◌+◌, ◌%◌, get_or, set, refl, ap₂, ◌∙◌}
use Rattle.std.specs.List.{insert}
use Rattle.nuc_tiered.specs.Rings.{row}
use Rattle.nuc_tiered.proofs.Turns.{turned_back}
use Rattle.nuc_tiered.proofs.rings.turn_down.Goals as goal

pub returns-clause-down : goal.returns-clause-down
returns-clause-down c =
    let at = c.args.k * 512 + get_or c.args.heads.now c.args.k 0 in
    let head = (get_or c.args.heads.now c.args.k 0 + 1) % 512 in
    ap₂ (λ x y. insert (row (set c.args.cells.now at x) (set c.args.heads.now c.args.k head)) (c.args.k * 512) y) c.replace.ensures.after c.replace.ensures.value
    ∙ turned_back _ _ c.args.k c.args.hand head at c.requires.form c.requires.within refl refl
