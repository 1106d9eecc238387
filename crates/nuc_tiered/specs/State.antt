use Rattle.std.specs.Prelude.{ℕ, List, refl}
use Rattle.std.specs.Coded.{Coded, code_by, coded×, coded_ℕ, coded_list}

-- what a caller sees of a list: its items, and how many more it can take without memory
pub record TieredState : Type 0 where
  pub items : List ℕ
  pub spare : ℕ

abbrev pub state_code : Coded TieredState
state_code = code_by (List ℕ × ℕ) (coded× (coded_list coded_ℕ) coded_ℕ) (λ s. (s.items, s.spare)) (λ t. record { items = t.0; spare = t.1 }) (λ _. refl)
