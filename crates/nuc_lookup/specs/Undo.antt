-- How changes of where numbers lead are taken back.
use Rattle.std.specs.Prelude.{ℕ, List, [], ◌∷◌, Option, None, Some}
use Rattle.std.specs.FinMap.{insert, remove}
use Rattle.nuc_lookup.specs.Rows.{Numbers}
use Rattle.nuc_lookup.specs.declared.undo.Undo.{Undo}

-- x leads there from now on, or nowhere
abbrev pub led : Numbers → ℕ → Option ℕ → Numbers
led m x None = remove m x
led m x (Some n) = insert m x n

-- what there was before a change that led to m
abbrev pub undone : Numbers → Undo → Numbers
undone m u = led m u.from u.before

-- what there was before the first of the changes that led to m
abbrev pub first_of : Numbers → List Undo → Numbers
first_of m [] = m
first_of m (u ∷ us) = undone (first_of m us) u

-- what there was before each of them, the oldest first
abbrev pub past_of : Numbers → List Undo → List Numbers
past_of m [] = []
past_of m (u ∷ us) = first_of m (u ∷ us) ∷ past_of m us
