use Rattle.std.proofs.Common.{ap, ◌∙◌}
use Rattle.nuc_lookup.specs.Rows.{numbers_of}
use Rattle.nuc_lookup.proofs.Views.{nowhere}
use Rattle.nuc_lookup.proofs.lookup.Lookup.new.Goals as goal

pub returns : goal.returns
returns c = ap numbers_of c.new.ensures.items ∙ nowhere
