-- Bytes that are written as `%` and two hexadecimal digits.
use Rattle.std.specs.Prelude.{ℕ, ◌+◌, ◌-◌, ◌*◌, ◌==◌, List, [], ◌∷◌, Option, Some, None, nat_lt, if◌then◌else◌}

-- the value of a hexadecimal digit, of either case
abbrev pub hex_value : ℕ → Option ℕ
hex_value b =
    if nat_lt b 48 then None else (if nat_lt b 58 then Some (b - 48) else (
    if nat_lt b 65 then None else (if nat_lt b 71 then Some (b - 55) else (
    if nat_lt b 97 then None else (if nat_lt b 103 then Some (b - 87) else None)))))

abbrev pub byte_of : Option ℕ → Option ℕ → Option ℕ
byte_of None low = None
byte_of (Some high) None = None
byte_of (Some high) (Some low) = Some (high * 16 + low)

-- the byte that these three stand for, where they are an escape
abbrev pub escape : ℕ → ℕ → ℕ → Option ℕ
escape b high low = if b == 37 then byte_of (hex_value high) (hex_value low) else None

-- the byte of an escape and what is behind it, else what stands here
abbrev pub undone : Option ℕ → List ℕ → List ℕ → List ℕ
undone None behind here = here
undone (Some b) behind here = b ∷ behind

-- the bytes with their escapes undone; a `%` of no escape stands for itself
abbrev pub unescaped : List ℕ → List ℕ
unescaped [] = []
unescaped (b ∷ []) = b ∷ []
unescaped (b ∷ c ∷ []) = b ∷ c ∷ []
unescaped (b ∷ high ∷ low ∷ bs) = undone (escape b high low) (unescaped bs) (b ∷ unescaped (high ∷ low ∷ bs))
