use Rattle.std.proofs.Common.{◌≡◌, ◌++◌, suc, length, [], map}
use Rattle.std.specs.Option.{option_map_or}
use Rattle.nuc_script.specs.Words.{words_of}
use Rattle.nuc_script.proofs.words.words_of.Given as goal

abbrev pub invariant-loop-rest : goal.invariant-loop-rest
invariant-loop-rest l =
    map (λ word. word.now) l.words.items ++ option_map_or (λ rest. words_of rest.now) l.rest [] ≡ words_of l.line

abbrev pub decreases-loop-rest : goal.decreases-loop-rest
decreases-loop-rest l = option_map_or (λ rest. suc (length rest.now)) l.rest 0
