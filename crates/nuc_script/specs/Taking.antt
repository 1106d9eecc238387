-- What the reading of a script takes from its source.
use Rattle.std.specs.Prelude.{◌≡◌, ◌⊎◌, ℕ, ◌+◌, ◌<◌, ◌≤◌, List, [], ◌∷◌, ◌++◌, length, Option, Some}
use Rattle.std.specs.List.{concat, AllByRecursion}
use Rattle.nuc_io.specs.Reading.{Took, AtEnd}
use Rattle.nuc_io.specs.Line.{IsOneLine}
use Rattle.nuc_script.specs.declared.script_read.ScriptRead.{ScriptRead}
use Rattle.nuc_script.specs.declared.script_read.ScriptRead.TheVariants as read
use Rattle.nuc_script.specs.Reading.{script_of}

-- a line with its LF, which came before its 4,098th byte
abbrev pub IsFullLine : List ℕ → Type 0
IsFullLine line = (text : List ℕ) × IsOneLine text × (length text ≤ 4097) × (line ≡ text ++ 10 ∷ [])

-- a line as it is cut from the bytes: up to its LF, up to the end, or off after 4,098 bytes
pub data IsCutLine (line : List ℕ) (rest : Option (List ℕ)) : Type 0 where
  by_lf : IsFullLine line → IsCutLine line rest
  by_end : IsOneLine line → 0 < length line → length line ≤ 4097 → AtEnd rest → IsCutLine line rest
  cut_off : IsOneLine line → length line ≡ 4098 → IsCutLine line rest

-- the bytes have this answer, and have it whatever follows them, where more may follow
abbrev pub IsSettled : List ℕ → Option (List ℕ) → ScriptRead → Type 0
IsSettled bytes rest answer = (script_of bytes ≡ answer) × (AtEnd rest ⊎ ((more : List ℕ) → script_of (bytes ++ more) ≡ answer))

-- by the answer: what was left and is. Commands come with the source's end; a fault as soon as its line was cut, and no line behind it is taken
abbrev pub ReadsScript : Option (List ℕ) → ScriptRead → Option (List ℕ) → Type 0
ReadsScript left (read.Commands commands) rest =
    (bytes : List ℕ) × Took left bytes rest × AtEnd rest × (script_of bytes ≡ read.Commands commands)
ReadsScript left (read.Fault number kind) rest =
    (lines : List (List ℕ)) × (line : List ℕ) × AllByRecursion IsFullLine lines × (number ≡ length lines + 1) × IsCutLine line rest
    × Took left (concat lines ++ line) rest × IsSettled (concat lines ++ line) rest (read.Fault number kind)
ReadsScript left read.ReadFault rest = Unit {0}
ReadsScript left read.Memory rest = Unit {0}

-- so many lines were taken at most, each of at most 4,098 bytes with its LF
abbrev pub TookLines : ℕ → Option (List ℕ) → Option (List ℕ) → Type 0
TookLines most left rest =
    (lines : List (List ℕ)) × (length lines ≤ most) × AllByRecursion (λ line. length line ≤ 4098) lines × Took left (concat lines) rest

abbrev pub IsCommands : ScriptRead → Type 0
IsCommands (read.Commands commands) = Unit {0}
IsCommands (read.Fault number kind) = ⊥
IsCommands read.ReadFault = ⊥
IsCommands read.Memory = ⊥

-- commands, or a fault of a line
abbrev pub IsAnswered : ScriptRead → Type 0
IsAnswered (read.Commands commands) = Unit {0}
IsAnswered (read.Fault number kind) = Unit {0}
IsAnswered read.ReadFault = ⊥
IsAnswered read.Memory = ⊥

-- where a source tells its bytes, each answer is that of all of them
abbrev pub OneReading : Type 0
OneReading = (left : List ℕ) (rest : Option (List ℕ)) (answer : ScriptRead) → IsAnswered answer
    → ReadsScript (Some left) answer rest → answer ≡ script_of left
