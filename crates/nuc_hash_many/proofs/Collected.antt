-- What is gathered of answers that are all good.
use Rattle.std.proofs.Common.{◌≡◌, List, [], ◌∷◌, map, Result, Ok, Err, Vec, Global, refl, subst, ◌∙◌}
use Rattle.std.specs.List.{AllZip}
use Rattle.std.specs.Result.{IfOk, MatchResult}

module _ {X Y : Type 0} (E : Type 0) (f : X → Y) where
  abbrev Gives : X → Result Y E → Type 0
  Gives x r = IfOk r (λ y. y ≡ f x)

  all_good : (xs : List X) (ys : List Y) → AllZip Gives xs (map Ok ys) → ys ≡ map f xs
  all_good [] [] zip = refl
  all_good [] (y ∷ ys) zip = absurd zip
  all_good (x ∷ xs) [] zip = absurd zip
  all_good (x ∷ xs) (y ∷ ys) zip = λ i. zip.0 i ∷ all_good xs ys zip.1 i

  pub collected : {F : Type 0} (Q : F → Type 0) (xs : List X) (rs : List (Result Y E)) (gathered : Result (Vec Y Global) F) → AllZip Gives xs rs
      → MatchResult gathered (λ v. (ys : List Y) × (rs ≡ map Ok ys) × (v.items ≡ ys)) Q → IfOk gathered (λ v. v.items ≡ map f xs)
  collected Q xs rs (Ok v) zip (ys, same, is) = is ∙ all_good xs ys (subst (λ (all : List (Result Y E)). AllZip Gives xs all) same zip)
  collected Q xs rs (Err e) zip h = tt
