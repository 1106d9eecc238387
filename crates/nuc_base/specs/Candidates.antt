-- The names that are tried in turn for a copy whose own name is taken.
use Rattle.std.specs.Prelude.{◌≢◌, ◌<◌, ◌^◌, ◌+◌, ◌-◌, ◌==◌, ◌&&◌, ℕ, Option, Some, None, List, ◌++◌, length, take, drop, reverse, nat_lt, if◌then◌else◌, codes}
use Rattle.std.specs.Fmt.{decimal}
use Rattle.std.specs.List.{position}
use Rattle.std.specs.Str.Lossy.{utf8_valid_len}
use Rattle.nuc_base.specs.SamePlace.{SameName}

-- how many bytes stand after the last `.`
abbrev pub after_dot : List ℕ → Option ℕ
after_dot name = position (λ b. b == 46) (reverse name)

-- the extension is the part from the last `.` on, where that isn't the first byte and 1 to 16 bytes follow it, else empty
abbrev pub extension_within : ℕ → Option ℕ → ℕ
extension_within len None = 0
extension_within len (Some after) = if nat_lt 0 after && nat_lt after 17 && nat_lt (after + 1) len then after + 1 else 0

abbrev pub extension_len : List ℕ → ℕ
extension_len name = extension_within (length name) (after_dot name)

abbrev pub extension : List ℕ → List ℕ
extension name = drop (length name - extension_len name) name

-- what stands before the extension
abbrev pub stem : List ℕ → List ℕ
stem name = take (length name - extension_len name) name

-- what stands between the two in the candidate of this number, from 1 on
abbrev pub label : ℕ → List ℕ
label number = if number == 1 then codes " (conflicted copy)" else codes " (conflicted copy " ++ (decimal number ++ codes ")")

-- the longest front that is whole characters and has at most this many bytes
abbrev pub cut_text : ℕ → List ℕ → List ℕ
cut_text room text = take (utf8_valid_len (take room text)) text

-- the stem is cut so that the whole has at most 255 bytes
unfoldable pub candidate : List ℕ → ℕ → List ℕ
candidate name number = let rest = label number ++ extension name in cut_text (255 - length rest) (stem name) ++ rest

-- two candidates of one name are never the same name
abbrev pub CandidatesDiffer : Type 0
CandidatesDiffer = (name : List ℕ) (i j : ℕ) → 0 < i → 0 < j → i < 2 ^ 64 → j < 2 ^ 64 → i ≢ j → ¬ (SameName (candidate name i) (candidate name j))
