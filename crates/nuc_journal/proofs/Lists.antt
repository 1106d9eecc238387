-- Lists that get one more item, and their fronts.
use Rattle.std.proofs.Common.{◌≡◌, ◌+◌, ◌<◌, ◌≤◌, ◌⊎◌, ℕ, zero, suc, List, [], ◌∷◌, ◌++◌, length, take, drop, slice_get, Some, None, refl, ◌∙◌, ap, inl, inr, arith}

-- an item of the longer list is one of the list or the new one
pub push_cases : {X : Type 0} (xs : List X) (x : X) (k : ℕ) (y : X) → slice_get (xs ++ x ∷ []) k ≡ Some y
    → ((k < length xs) × (slice_get xs k ≡ Some y)) ⊎ ((k ≡ length xs) × (x ≡ y))
push_cases [] x zero y e = inr (refl, (let same : x ≡ y = cc in same))
push_cases [] x (suc k) y e = cc
push_cases (z ∷ xs) x zero y e = inl (omega arith, e)
push_cases (z ∷ xs) x (suc k) y e = elim (push_cases xs x k y e) [
  | inl (lt, at) ↦ inl (omega arith, at)
  | inr (eq, same) ↦ inr ((let s : suc k ≡ length (z ∷ xs) = omega arith in s), same)
]

-- the items of the list keep their places
pub push_before : {X : Type 0} (xs : List X) (x : X) (k : ℕ) (y : X) → slice_get xs k ≡ Some y → slice_get (xs ++ x ∷ []) k ≡ Some y
push_before [] x k y e = cc
push_before (z ∷ xs) x zero y e = e
push_before (z ∷ xs) x (suc k) y e = push_before xs x k y e

pub push_at : {X : Type 0} (xs : List X) (x : X) → slice_get (xs ++ x ∷ []) (length xs) ≡ Some x
push_at [] x = refl
push_at (z ∷ xs) x = let s : length (z ∷ xs) ≡ suc (length xs) = omega arith in ap (slice_get (z ∷ xs ++ x ∷ [])) s ∙ push_at xs x

pub within : {X : Type 0} (xs : List X) (k : ℕ) (x : X) → slice_get xs k ≡ Some x → k < length xs
within [] k x e = cc
within (y ∷ xs) zero x e = omega arith
within (y ∷ xs) (suc k) x e = let lt = within xs k x e in omega arith

pub take_at : {X : Type 0} (xs : List X) (k : ℕ) (x : X) → slice_get xs k ≡ Some x → take (suc k) xs ≡ take k xs ++ x ∷ []
take_at [] k x e = cc
take_at (y ∷ xs) zero x e = ap (λ y. y ∷ []) (let same : y ≡ x = cc in same)
take_at (y ∷ xs) (suc k) x e = ap (λ ys. y ∷ ys) (take_at xs k x e)

pub take_past : {X : Type 0} (xs : List X) (k : ℕ) → slice_get xs k ≡ None → take (suc k) xs ≡ take k xs
take_past [] zero e = refl
take_past [] (suc k) e = refl
take_past (y ∷ xs) zero e = cc
take_past (y ∷ xs) (suc k) e = ap (λ ys. y ∷ ys) (take_past xs k e)

-- an item of a front is one of the list, with the same items before it
pub front_at : {X : Type 0} (xs : List X) (n k : ℕ) (x : X) → slice_get (take n xs) k ≡ Some x
    → (slice_get xs k ≡ Some x) × (take k (take n xs) ≡ take k xs)
front_at xs zero k x e = cc
front_at [] (suc n) k x e = cc
front_at (y ∷ xs) (suc n) zero x e = (e, refl)
front_at (y ∷ xs) (suc n) (suc k) x e = let (at, same) = front_at xs n k x e in (at, ap (λ ys. y ∷ ys) same)

pub take_all : {X : Type 0} (n : ℕ) (xs : List X) → length xs ≤ n → take n xs ≡ xs
take_all zero [] le = refl
take_all zero (y ∷ xs) le = absurd (omega arith)
take_all (suc n) [] le = refl
take_all (suc n) (y ∷ xs) le = ap (λ ys. y ∷ ys) (take_all n xs (omega arith))

pub take_front : {X : Type 0} (n k : ℕ) (xs : List X) → n ≤ k → take n (take k xs) ≡ take n xs
take_front zero k xs le = refl
take_front (suc n) zero xs le = absurd (omega arith)
take_front (suc n) (suc k) [] le = refl
take_front (suc n) (suc k) (y ∷ xs) le = ap (λ ys. y ∷ ys) (take_front n k xs (omega arith))

front_again : {X : Type 0} (n : ℕ) (xs : List X) → take (length (take n xs)) xs ≡ take n xs
front_again zero xs = refl
front_again (suc n) [] = refl
front_again (suc n) (y ∷ xs) =
    let more : length (y ∷ take n xs) ≡ suc (length (take n xs)) = omega arith in
    ap (λ k. take k (y ∷ xs)) more ∙ ap (λ ys. y ∷ ys) (front_again n xs)

-- a front with some items more
pub front_more : {X : Type 0} (k n : ℕ) (xs : List X) → k ≤ length xs → take (k + length (take n (drop k xs))) xs ≡ take k xs ++ take n (drop k xs)
front_more zero n xs le = let same : 0 + length (take n xs) ≡ length (take n xs) = omega arith in ap (λ j. take j xs) same ∙ front_again n xs
front_more (suc k) n [] le = absurd (omega arith)
front_more (suc k) n (y ∷ xs) le =
    let same : suc k + length (take n (drop k xs)) ≡ suc (k + length (take n (drop k xs))) = omega arith in
    ap (λ j. take j (y ∷ xs)) same ∙ ap (λ ys. y ∷ ys) (front_more k n xs (omega arith))
