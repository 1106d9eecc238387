-- The ends of lists.
use Rattle.std.proofs.Common.{◌≡◌, ◌<◌, List, [], ◌∷◌, ◌++◌, length, refl, ap, arith, length-append}

pub same_ends : {A : Type 0} (xs ys : List A) (x y : A) → xs ++ x ∷ [] ≡ ys ++ y ∷ [] → (xs ≡ ys) × (x ≡ y)
same_ends [] [] x y is = (refl, cc)
same_ends [] (b ∷ ys) x y is = absurd (let long = ap length is in let more = length-append ys (y ∷ []) in omega arith)
same_ends (a ∷ xs) [] x y is = absurd (let long = ap length is in let more = length-append xs (x ∷ []) in omega arith)
same_ends (a ∷ xs) (b ∷ ys) x y is =
    let rest = same_ends xs ys x y (let tail : xs ++ x ∷ [] ≡ ys ++ y ∷ [] = cc in tail) in
    let head : a ≡ b = cc in
    ((λ i. head i ∷ rest.0 i), rest.1)

-- a list that isn't empty has an end
pub ended : {A : Type 0} (xs : List A) → 0 < length xs → (ys : List A) × (y : A) × (xs ≡ ys ++ y ∷ [])
ended [] some = absurd (omega arith)
ended (x ∷ []) some = ([], x, refl)
ended (x ∷ z ∷ xs) some = let rest = ended (z ∷ xs) (omega arith) in (x ∷ rest.0, rest.1, ap (λ l. x ∷ l) rest.2)
