use Rattle.std.specs.Prelude.{ℕ, Bool, List, nat_eq}
use Rattle.std.specs.List.{list_any}

-- the marked numbers, those of the last settling, and how many marks need no memory
pub record MarksState : Type 0 where
  pub now : List ℕ
  pub settled : List ℕ
  pub spare : ℕ

abbrev pub is_marked : List ℕ → ℕ → Bool
is_marked marked v = list_any (nat_eq v) marked
