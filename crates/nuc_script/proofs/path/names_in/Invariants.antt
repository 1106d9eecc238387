use Rattle.std.proofs.Common.{◌≡◌, ◌++◌, suc, true, length, []}
use Rattle.std.specs.Option.{option_map_or}
use Rattle.nuc_script.specs.Paths.{pieces, are_names}
use Rattle.nuc_script.proofs.path.names_in.Given as goal

abbrev pub invariant-loop-rest : goal.invariant-loop-rest
invariant-loop-rest l =
    (l.names ++ option_map_or (λ rest. pieces rest.now) l.rest [] ≡ pieces l.fn.text) × (are_names l.names ≡ true)

abbrev pub decreases-loop-rest : goal.decreases-loop-rest
decreases-loop-rest l = option_map_or (λ rest. suc (length rest.now)) l.rest 0
