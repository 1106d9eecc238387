-- Numbers: one or more decimal digits.
use Rattle.std.specs.Prelude.{ℕ, ◌+◌, ◌-◌, ◌*◌, List, [], ◌∷◌, Option, Some, None, nat_lt, if◌then◌else◌}

-- the number that these digits make behind others that make n
abbrev pub number_behind : ℕ → List ℕ → Option ℕ
number_behind n [] = Some n
number_behind n (b ∷ bs) = if nat_lt b 48 then None else (if nat_lt b 58 then number_behind (n * 10 + (b - 48)) bs else None)

abbrev pub number_of : List ℕ → Option ℕ
number_of [] = None
number_of (b ∷ bs) = number_behind 0 (b ∷ bs)

abbrev pub within : ℕ → ℕ → Option ℕ → Option ℕ
within least most None = None
within least most (Some n) = if nat_lt n least then None else (if nat_lt most n then None else Some n)
