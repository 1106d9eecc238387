-- Numbers that are drawn in turn: who has no number of its own gets the next.
use Rattle.std.specs.Prelude.{ℕ, ◌+◌, List, [], ◌∷◌, ◌++◌, Option, None, Some, unwrap_or}

-- the next number after the turn of somebody, by the number of its own
abbrev pub next_after : Option ℕ → ℕ → ℕ
next_after None next = next + 1
next_after (Some own) next = next

module _ {X : Type 0} (own : X → Option ℕ) where
  -- the next number after the turns of all
  abbrev pub next_after_all : ℕ → List X → ℕ
  next_after_all next [] = next
  next_after_all next (x ∷ xs) = next_after_all (next_after (own x) next) xs

  -- what each gives, by its number, in turn
  abbrev pub in_turn : {A : Type 0} → (ℕ → X → List A) → ℕ → List X → List A
  in_turn gives next [] = []
  in_turn gives next (x ∷ xs) = gives (unwrap_or (own x) next) x ++ in_turn gives (next_after (own x) next) xs
