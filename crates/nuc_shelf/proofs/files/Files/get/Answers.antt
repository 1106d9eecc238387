use Rattle.std.proofs.Common.{ap, sym, ◌∙◌}
use Rattle.std.specs.FinMap as map
use Rattle.nuc_shelf.proofs.Bytes.{says}
use Rattle.nuc_shelf.proofs.files.Files.get.Goals as goal

pub returns : goal.returns
returns c = c.get.ensures.value ∙ sym (says c.self.inside.files.entries c.args.key) ∙ ap (λ s. map.get s.now c.args.key) c.self.view_is
