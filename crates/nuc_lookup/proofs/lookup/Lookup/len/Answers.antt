use Rattle.std.proofs.Common.{ap, sym, refl, ◌∙◌}
use Rattle.nuc_lookup.proofs.Views.{len_is}
use Rattle.nuc_lookup.proofs.lookup.Lookup.len.Goals as goal

pub returns : goal.returns
returns c = c.len.ensures ∙ c.self.inside.rows.ok.0 ∙ sym (len_is _ _ _ refl (ap (λ s. s.numbers) c.self.view_is) c.self.invariant)
