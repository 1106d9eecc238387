use Rattle.std.proofs.Common.{ap, ◌∙◌}
use Rattle.nuc_shelf.specs.Files.{bytes_of}
use Rattle.nuc_shelf.specs.declared.files.Undo.{Undo}
use Rattle.nuc_shelf.proofs.Bytes.{first_stays}
use Rattle.nuc_shelf.proofs.files.Files.set.Goals as goal

pub returns-clause-settled : goal.returns-clause-settled
returns-clause-settled c =
    let u : Undo = record { key = c.args.key; before = c.exchange-before.result } in
    first_stays (bytes_of c.self.inside.files.entries) (bytes_of c.exchange-before.new.files.entries) c.self.inside.undos.items c.push_reserved.new.self.items u c.args.file
    c.exchange-before.ensures.now c.exchange-before.ensures.before c.push_reserved.ensures.items
    ∙ ap (λ s. s.settled) c.self.view_is
