-- What the answer of a test says.
use Rattle.std.proofs.Common.{◌≡◌, ◌≢◌, ◌==◌, ℕ, Bool, true, false, refl, MatchBool}
use Rattle.std.specs.Bool.{Decides}
use Rattle.std.proofs.lemmas.Bool.Decides.{Decides-eqb}

pub cases_of_decides : (r : Bool) (S P Q : Type 0) → Decides r S → (S → P) → (¬ S → Q) → MatchBool r P Q
cases_of_decides true S P Q d p q = p (d.0 refl)
cases_of_decides false S P Q d p q = q (λ s. let e = d.1 s in cc)

pub cases_of_eqb : (r : Bool) (x y : ℕ) (P Q : Type 0) → r ≡ (x == y) → (x ≡ y → P) → (x ≢ y → Q) → MatchBool r P Q
cases_of_eqb r x y P Q e p q = rw e (cases_of_decides (x == y) (x ≡ y) P Q (Decides-eqb x y) p q)
