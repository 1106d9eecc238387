use Rattle.nuc_undo.proofs.Undoing.{above_root, restores}
use Rattle.nuc_undo.proofs.undo.cut_undoable.Goals as goal

pub returns-clause-undo : goal.returns-clause-undo
returns-clause-undo g c =
    rw c.cut_legal.ensures.cut (restores _ c.args.id c.cut_legal.result c.requires.form (above_root _ c.args.id.0 c.requires.form c.requires.legal.there) c.cut_legal.ensures.node)
