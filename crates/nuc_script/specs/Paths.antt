-- Paths: a `/` and a name, once or more.
use Rattle.std.specs.Prelude.{ℕ, Bool, true, not, ◌==◌, ◌&&◌, List, [], ◌∷◌, length, Option, Some, None, nat_lt, if◌then◌else◌}
use Rattle.std.specs.List.{slice_split}
use Rattle.std.specs.Str.{bytes_eq}
use Rattle.nuc_base.specs.Names.{good_len}
use Rattle.nuc_base.specs.declared.path.Path.{Path}

-- the bytes are a name: 1 to 255, in whole characters without NUL and `/`, and neither `.` nor `..`
abbrev pub is_name : List ℕ → Bool
is_name bytes =
    not (length bytes == 0) && (nat_lt (length bytes) 256 && (
    (good_len bytes == length bytes) && (not (bytes_eq bytes (46 ∷ [])) && not (bytes_eq bytes (46 ∷ 46 ∷ [])))))

abbrev pub are_names : List (List ℕ) → Bool
are_names [] = true
are_names (bytes ∷ more) = is_name bytes && are_names more

-- what stands between slashes
abbrev pub pieces : List ℕ → List (List ℕ)
pieces bytes = slice_split (λ b. b == 47) bytes

-- the name that the bytes are
abbrev pub name_in : List ℕ → Option (List ℕ)
name_in bytes = if is_name bytes then Some bytes else None

abbrev pub names_in : List (List ℕ) → Option (List (List ℕ))
names_in names = if are_names names then Some names else None

abbrev pub path_with : Option (List (List ℕ)) → Option Path
path_with None = None
path_with (Some names) = Some (record { names = names })

abbrev pub path_of : List ℕ → Option Path
path_of [] = None
path_of (b ∷ bs) = if b == 47 then path_with (names_in (pieces bs)) else None
