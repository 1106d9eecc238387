use Rattle.std.proofs.Common.{sym, subst}
use Rattle.nuc_base.specs.Trees.{IsFolder, IsUnder}
use Rattle.nuc_base.proofs.Alike.{under_absent}
use Rattle.nuc_folder.proofs.making.make_dir.Goals as goal

pub refusal-requires-clause-no_cycle : goal.refusal-requires-clause-no_cycle
refusal-requires-clause-no_cycle c =
    let parent = c.in-Ok.place.parent.0 in
    let key = c.args.key.0 in
    subst (λ m. IsFolder m parent → IsUnder m parent key → ⊥) (sym c.tree.ensures.nodes)
    (λ folder. under_absent _ _ _ c.tree.ensures.shelf.form c.requires.key folder c.requires.absent)
