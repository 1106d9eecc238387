use Rattle.std.proofs.Common.{ap, sym, ◌∙◌, length}
use Rattle.nuc_lookup.proofs.Undoing.{length_past}
use Rattle.nuc_lookup.proofs.undo_lookup.UndoLookup.changes.Goals as goal

pub returns : goal.returns
returns c = c.len.ensures ∙ c.self.inside.undos.ok.0 ∙ sym (length_past c.self.inside.lookup.numbers c.self.inside.undos.items) ∙ ap (λ s. length s.past) c.self.view_is
