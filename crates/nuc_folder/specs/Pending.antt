-- Taking the oldest of what is pending.
use Rattle.std.specs.Prelude.{List, [], ◌∷◌, Option, None, Some}

abbrev pub oldest : {A : Type 0} → List A → Option A
oldest [] = None
oldest (x ∷ xs) = Some x
