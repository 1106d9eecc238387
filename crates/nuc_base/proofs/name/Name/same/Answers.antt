use Rattle.std.proofs.Common.{◌≡◌, sym, ◌∙◌}
use Rattle.std.proofs.lemmas.Bool.Decides.{Decides-eqb}
use Rattle.std.proofs.lemmas.Slice.Eq.{slice_eq-Decides}
use Rattle.nuc_base.specs.SamePlace.{equal_names-same, same_name-equal}
use Rattle.nuc_base.proofs.Answered.{cases_of_decides}
use Rattle.nuc_base.proofs.name.Name.same.Goals as goal

pub returns : goal.returns
returns c =
    let a = c.bytes.ensures.value in
    let b = c.bytes-2.ensures.value in
    cases_of_decides c.eq.result (c.bytes.result.now ≡ c.bytes-2.result.now) _ _
    (slice_eq-Decides Decides-eqb _ _ _ c.eq.ensures)
    (λ e. equal_names-same _ _ (sym a ∙ e ∙ b))
    (λ apart s. apart (a ∙ same_name-equal _ _ s ∙ sym b))
