use Rattle.std.specs.Prelude.{ℕ, refl}
use Rattle.std.specs.Coded.{Coded, code_by, coded×, coded_ℕ}
use Rattle.std.specs.FinMap as map
use Rattle.nuc_lookup.specs.Rows.{Numbers}

-- what a caller sees of a look-up: what it leads to, and how many rows it has room for
pub record LookupState : Type 0 where
  pub numbers : Numbers
  pub room : ℕ

abbrev pub numbers_code : Coded Numbers
numbers_code = map.code coded_ℕ coded_ℕ

abbrev pub lookup_code : Coded LookupState
lookup_code = code_by (Numbers × ℕ) (coded× numbers_code coded_ℕ) (λ s. (s.numbers, s.room)) (λ t. record { numbers = t.0; room = t.1 }) (λ _. refl)
