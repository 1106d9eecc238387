use Rattle.std.proofs.Common.{[], sym, ap, ◌∙◌}
use Rattle.std.specs.Option.{option_map_or}
use Rattle.nuc_script.specs.Paths.{pieces}
use Rattle.nuc_script.proofs.Names.{no_names, names_more}
use Rattle.nuc_script.proofs.path.names_in.Goals as goal

pub returns-in_default-2 : goal.returns-in_default-2
returns-in_default-2 c =
    let cut = ap (λ r. option_map_or (λ text. pieces text.now) r []) c.in-Some.is ∙ c.cut.ensures.split in
    no_names _ _ _ _ _ c.loop-rest.invariant.0 cut (sym c.in_default-2.is ∙ c.in_ok-name.ensures)

pub loop-rest-preserved : goal.loop-rest-preserved
loop-rest-preserved c =
    let cut = ap (λ r. option_map_or (λ text. pieces text.now) r []) c.in-Some.is ∙ c.cut.ensures.split in
    let more = names_more _ _ _ _ _ _ c.loop-rest.invariant.0 cut (sym c.in-Some-2.is ∙ c.in_ok-name.ensures) c.loop-rest.invariant.1 in
    rw c.in_ok-push.ensures.ok more
