-- A list with one more item in hand, at the position where the hand is.
use Rattle.std.proofs.Common.{◌≡◌, ◌<◌, ◌≤◌, ℕ, zero, suc, List, [], ◌∷◌, length, get_or, set, take, drop, ◌++◌, refl, sym, ap, ◌∙◌, arith, length-take-le}
use Rattle.std.specs.List.{insert, remove}
use Rattle.std.proofs.lemmas.List.{take_at}

-- the hand goes up past an item
pub up : (xs : List ℕ) (p c d : ℕ) → p < length xs → insert (set xs p c) (suc p) (get_or xs p d) ≡ insert xs p c
up [] p c d lt = absurd (omega arith)
up (x ∷ xs) zero c d lt = refl
up (x ∷ xs) (suc p) c d lt = ap (λ l. x ∷ l) (up xs p c d (omega arith))

-- and down
pub down : (xs : List ℕ) (p c d : ℕ) → p < length xs → insert (set xs p c) p (get_or xs p d) ≡ insert xs (suc p) c
down [] p c d lt = absurd (omega arith)
down (x ∷ xs) zero c d lt = refl
down (x ∷ xs) (suc p) c d lt = ap (λ l. x ∷ l) (down xs p c d (omega arith))

-- what is in front of the hand
front : (xs : List ℕ) (n t c : ℕ) → n ≤ t → t ≤ length xs → take n (insert xs t c) ≡ take n xs
front xs zero t c le within = refl
front xs (suc n) zero c le within = absurd (omega arith)
front [] (suc n) (suc t) c le within = absurd (omega arith)
front (x ∷ xs) (suc n) (suc t) c le within = ap (λ l. x ∷ l) (front xs n t c (omega arith) (omega arith))

front_more : (xs : List ℕ) (i n c : ℕ) → i ≤ n → take (suc n) (insert xs i c) ≡ insert (take n xs) i c
front_more xs zero n c le = refl
front_more [] (suc i) zero c le = absurd (omega arith)
front_more [] (suc i) (suc n) c le = refl
front_more (x ∷ xs) (suc i) zero c le = absurd (omega arith)
front_more (x ∷ xs) (suc i) (suc n) c le = ap (λ l. x ∷ l) (front_more xs i n c (omega arith))

remove_insert : (xs : List ℕ) (i c : ℕ) → i ≤ length xs → remove (insert xs i c) i ≡ xs
remove_insert xs zero c le = refl
remove_insert [] (suc i) c le = absurd (omega arith)
remove_insert (x ∷ xs) (suc i) c le = ap (λ l. x ∷ l) (remove_insert xs i c (omega arith))

-- the hand went from i to the end of the items, or beyond
pub inserted : (xs ys : List ℕ) (i n t x c : ℕ) → i ≤ n → suc n ≤ t → t ≤ length ys → insert ys t c ≡ insert xs i x → take (suc n) ys ≡ insert (take n xs) i x
inserted xs ys i n t x c le behind within same = sym (front ys (suc n) t c behind within) ∙ ap (take (suc n)) same ∙ front_more xs i n x le

-- the hand went from the end of the items, or beyond, to i
taken : (xs ys : List ℕ) (i n t x c : ℕ) → i ≤ n → suc n ≤ t → t ≤ length xs → insert ys i c ≡ insert xs t x → take (suc n) xs ≡ insert (take n ys) i c
taken xs ys i n t x c le behind within same = sym (front xs (suc n) t x behind within) ∙ ap (take (suc n)) (sym same) ∙ front_more ys i n c le

module _ (xs ys : List ℕ) (i n t x c : ℕ) (le : i ≤ n) (behind : suc n ≤ t) (within : t ≤ length xs) (long : length ys ≡ length xs) (same : insert ys i c ≡ insert xs t x) where
  fits : i ≤ length (take n ys)
  fits = omega (arith, length-take-le n ys (omega arith))

  pub removed : take n ys ≡ remove (take (suc n) xs) i
  removed = sym (ap (λ l. remove l i) (taken xs ys i n t x c le behind within same) ∙ remove_insert (take n ys) i c fits)

-- what a list behind a borrow is afterwards
pub written : (xs ys : List ℕ) (n : ℕ) → length xs ≡ n → take n (xs ++ drop (length xs) ys) ≡ xs
written xs ys n long = take_at xs _ n long
