use Rattle.std.proofs.Common.{ap, sym, ◌∙◌}
use Rattle.nuc_shelf.specs.Files.{bytes_of, first_of}
use Rattle.nuc_shelf.specs.declared.files.Undo.{Undo}
use Rattle.nuc_shelf.proofs.Bytes.{first_push}
use Rattle.nuc_shelf.proofs.files.Files.undo_last.Goals as goal

pub returns-clause-settled : goal.returns-clause-settled
returns-clause-settled c =
    let m = bytes_of c.self.inside.files.entries in
    ap (λ k. first_of k c.pop.new.self.items) c.exchange.ensures.now ∙ sym (first_push m c.pop.new.self.items _)
    ∙ sym (ap (first_of m) c.in-Some.ensures.items) ∙ ap (λ s. s.settled) c.self.view_is
