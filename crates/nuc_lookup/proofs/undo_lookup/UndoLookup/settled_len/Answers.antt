use Rattle.std.proofs.Common.{ap, sym, ◌∙◌}
use Rattle.std.specs.FinMap.{len}
use Rattle.nuc_lookup.specs.State.{settled_of}
use Rattle.nuc_lookup.proofs.Undoing.{first_is}
use Rattle.nuc_lookup.proofs.undo_lookup.UndoLookup.settled_len.Goals as goal

pub returns : goal.returns
returns c = c.self.invariant.size ∙ ap len (sym (first_is c.self.inside.lookup.numbers c.self.inside.undos.items)) ∙ ap (λ s. len (settled_of s)) c.self.view_is
