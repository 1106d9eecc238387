use Rattle.std.proofs.Common.{ap, sym, subst, ◌∙◌, Some}
use Rattle.nuc_lookup.specs.Rows.{numbers_of, IsRising}
use Rattle.nuc_lookup.proofs.Rows.{rising_remove}
use Rattle.nuc_lookup.proofs.Views.{present, absent, remove_is, remove_gap}
use Rattle.nuc_lookup.proofs.lookup.Lookup.cut.Goals as goal

pub invariant_of-self : goal.invariant_of-self
invariant_of-self c = subst IsRising (sym c.remove.ensures.items) (rising_remove _ _ c.self.invariant)

pub returns-in-Ok-clause-numbers : goal.returns-in-Ok-clause-numbers
returns-in-Ok-clause-numbers c = ap numbers_of c.remove.ensures.items ∙ remove_is _ _ _ c.deref.ensures.value (ap (λ s. s.numbers) c.self.view_is) c.self.invariant _ _ c.in-Ok.ensures.place

pub returns-in-Ok-clause-before : goal.returns-in-Ok-clause-before
returns-in-Ok-clause-before c = ap (λ r. Some r.to) c.remove.ensures.value ∙ sym (present _ _ _ c.deref.ensures.value (ap (λ s. s.numbers) c.self.view_is) c.self.invariant _ _ c.remove.result c.in-Ok.ensures.place)

pub returns-in-Err-clause-numbers : goal.returns-in-Err-clause-numbers
returns-in-Err-clause-numbers c = remove_gap _ _ _ c.deref.ensures.value (ap (λ s. s.numbers) c.self.view_is) c.self.invariant _ _ c.in-Err.ensures.place

pub returns-in-Err-clause-before : goal.returns-in-Err-clause-before
returns-in-Err-clause-before c = sym (absent _ _ _ c.deref.ensures.value (ap (λ s. s.numbers) c.self.view_is) c.self.invariant _ _ c.in-Err.ensures.place)
