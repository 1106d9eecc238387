use Rattle.std.specs.Prelude.{◌≢◌, ◌<◌, ◌≤◌, ◌==◌, ◌&&◌, ℕ, Bool, not, IsTrue, List, [], ◌∷◌, length}
use Rattle.std.specs.List.{All, take_while}
use Rattle.std.specs.Str.{IsUtf8}
use Rattle.std.specs.Str.Lossy.{utf8_valid_len}

-- a byte that may stand in a name: neither NUL nor `/`
abbrev pub is_plain : ℕ → Bool
is_plain b = not (b == 0) && not (b == 47)

-- the bytes of a name
pub record IsName (bytes : List ℕ) : Type 0 where
  pub some : 0 < length bytes
  pub short : length bytes ≤ 255
  pub text : IsUtf8 bytes
  pub plain : All (λ b. IsTrue (is_plain b)) bytes
  pub not_dot : bytes ≢ 46 ∷ []
  pub not_dots : bytes ≢ 46 ∷ 46 ∷ []

-- the length of the longest front that is whole UTF-8 characters without NUL and `/`
abbrev pub good_len : List ℕ → ℕ
good_len bytes = utf8_valid_len (take_while is_plain bytes)
