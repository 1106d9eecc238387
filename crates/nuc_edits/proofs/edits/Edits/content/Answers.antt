use Rattle.std.proofs.Common.{ap, None, Some, ◌∙◌}
use Rattle.std.specs.Option.{option_copied}
use Rattle.nuc_edits.proofs.TiedLemmas.{content_is}
use Rattle.nuc_edits.proofs.edits.Edits.content.Goals as goal

pub returns-in_err-get : goal.returns-in_err-get
returns-in_err-get c =
    ap option_copied c.from_residual.ensures
    ∙ content_is c.args.v.0 _ _ c.self.invariant.keyed (ap (λ s. s.now.edits) c.self.view_is) None c.in_err-get.ensures.value

pub returns : goal.returns
returns c =
    c.put_by.ensures
    ∙ content_is c.args.v.0 _ _ c.self.invariant.keyed (ap (λ s. s.now.edits) c.self.view_is) (Some c.in_ok-get.field-0.now) c.in_ok-get.ensures.value
