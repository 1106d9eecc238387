use Rattle.std.proofs.Common.{◌≡◌, ◌∷◌, take}
use Rattle.std.specs.String.{string_bytes}
use Rattle.std.specs.List.{flat_map}
use Rattle.nuc_script.specs.Text.{escaped}
use Rattle.nuc_script.proofs.print_words.path_text.Given as goal

abbrev pub invariant-loop-name : goal.invariant-loop-name
invariant-loop-name l = string_bytes l.text ≡ flat_map (λ name. 47 ∷ escaped name) (take l.name-index l.name-items)
