use Rattle.std.proofs.Common.{◌*◌, ◌+◌, ◌%◌, get_or, set, refl, ap₂, ◌∙◌}
use Rattle.std.specs.List.{insert}
use Rattle.nuc_tiered.specs.Rings.{row}
use Rattle.nuc_tiered.proofs.Turns.{turned}
use Rattle.nuc_tiered.proofs.rings.turn_up.Goals as goal

pub returns-clause-up : goal.returns-clause-up
returns-clause-up c =
    let head = (get_or c.args.heads.now c.args.k 0 + 511) % 512 in
    ap₂ (λ x y. insert (row (set c.args.cells.now (c.args.k * 512 + head) x) (set c.args.heads.now c.args.k head)) (c.args.k * 512 + 512) y) c.replace.ensures.after
    c.replace.ensures.value
    ∙ turned _ _ c.args.k c.args.hand head (c.args.k * 512 + head) c.requires.form.blocks c.requires.within refl refl
