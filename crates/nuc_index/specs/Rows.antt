-- A list in an order, where something stands in it, and what it holds.
use Rattle.std.specs.Prelude.{◌≡◌, ◌⊎◌, ℕ, zero, suc, List, [], ◌∷◌}
use Rattle.std.specs.List.{AllByRecursion}
use Rattle.std.specs.declared.cmp.Ordering.{Ordering}
use Rattle.std.specs.declared.cmp.Ordering.TheVariants.{Less, Equal, Greater}

-- each element comes before those after it
abbrev pub Rises : {A : Type 0} → (A → A → Ordering) → List A → Type 0
Rises cmp [] = Unit {0}
Rises cmp (x ∷ xs) = AllByRecursion (λ y. cmp x y ≡ Less) xs × Rises cmp xs

-- what is looked for stands at this position
abbrev pub IsAt : {A : Type 0} → (A → Ordering) → List A → ℕ → Type 0
IsAt to [] i = ⊥
IsAt to (x ∷ xs) zero = to x ≡ Equal
IsAt to (x ∷ xs) (suc i) = IsAt to xs i

-- what is looked for would stand at this position, after what is less and before what is greater
abbrev pub IsGap : {A : Type 0} → (A → Ordering) → List A → ℕ → Type 0
IsGap to [] i = i ≡ 0
IsGap to (x ∷ xs) zero = AllByRecursion (λ y. to y ≡ Greater) (x ∷ xs)
IsGap to (x ∷ xs) (suc i) = (to x ≡ Less) × IsGap to xs i

-- x is an element
abbrev pub IsIn : {A : Type 0} → A → List A → Type 0
IsIn x [] = ⊥
IsIn x (y ∷ ys) = (y ≡ x) ⊎ IsIn x ys

-- the elements are those that have P
pub record Holds {A : Type 0} (P : A → Type 0) (xs : List A) : Type 0 where
  pub each : (x : A) → IsIn x xs → P x
  pub every : (x : A) → P x → IsIn x xs
