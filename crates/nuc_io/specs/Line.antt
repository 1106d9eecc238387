-- Reading one line.
use Rattle.std.specs.Prelude.{◌≡◌, ◌≢◌, ℕ, ◌<◌, ◌≤◌, Bool, true, false, List, [], ◌∷◌, ◌++◌, length, Option, All, if◌then◌else◌}
use Rattle.nuc_io.specs.Reading.{Took, AtEnd}
use Rattle.nuc_io.specs.declared.line.Line.{Line}
use Rattle.nuc_io.specs.declared.line.Line.TheVariants as line

-- what a buffer shows: its line without LF, whether an LF ended it, and whether no more lines come
pub record LineData : Type 0 where
  pub bytes : List ℕ
  pub ended : Bool
  pub spent : Bool

-- no LF is among the bytes
abbrev pub IsOneLine : List ℕ → Type 0
IsOneLine bytes = All (λ b. b ≢ 10) bytes

-- the line as it stood in the source
abbrev pub line_text : LineData → List ℕ
line_text line = if line.ended then line.bytes ++ 10 ∷ [] else line.bytes

-- at most 4,097 bytes, and an LF or the end after at least one byte
pub record IsWhole (now : LineData) (rest : Option (List ℕ)) : Type 0 where
  pub one_line : IsOneLine now.bytes
  pub short : length now.bytes ≤ 4097
  pub open_end : now.ended ≡ false → (0 < length now.bytes) × AtEnd rest

-- bytes without LF were taken, no more than these
abbrev pub TookPart : Option (List ℕ) → ℕ → Option (List ℕ) → Type 0
TookPart left most rest = (bytes : List ℕ) × IsOneLine bytes × (length bytes ≤ most) × Took left bytes rest

-- by the answer: what the buffer was and is, what was left and is
abbrev pub ReadsLine : LineData → Line → LineData → Option (List ℕ) → Option (List ℕ) → Type 0
ReadsLine old line.Whole now left rest =
    (old.spent ≡ false) × (now.spent ≡ false) × IsWhole now rest × Took left (line_text now) rest
ReadsLine old line.End now left rest =
    (old.spent ≡ false) × (now ≡ record { bytes = []; ended = false; spent = false }) × AtEnd left × (rest ≡ left)
ReadsLine old line.TooLong now left rest =
    (old.spent ≡ false) × (now.spent ≡ true) × ((bytes : List ℕ) × IsOneLine bytes × (length bytes ≡ 4098) × Took left bytes rest)
ReadsLine old line.ReadFault now left rest = (old.spent ≡ false) × (now.spent ≡ true) × TookPart left 4097 rest
ReadsLine old line.Memory now left rest = (old.spent ≡ false) × (now.spent ≡ true) × TookPart left 4097 rest
ReadsLine old line.Spent now left rest = (old.spent ≡ true) × (now ≡ old) × (rest ≡ left)

-- the end of the source was answered, where the line ends by it
abbrev pub EndsBy : Line → LineData → Type 0 → Type 0
EndsBy line.Whole now Ended = now.ended ≡ false → Ended
EndsBy line.End now Ended = Ended
EndsBy line.TooLong now Ended = Unit {0}
EndsBy line.ReadFault now Ended = Unit {0}
EndsBy line.Memory now Ended = Unit {0}
EndsBy line.Spent now Ended = Unit {0}
