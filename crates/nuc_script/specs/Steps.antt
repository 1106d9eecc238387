-- The steps of reading a script: one line, and what it gives.
use Rattle.std.specs.Prelude.{◌≡◌, ℕ, ◌<◌, ◌≤◌, Bool, true, false, List, [], ◌∷◌, ◌++◌, length, Option, Result, Ok, Err, nat_lt, if◌then◌else◌}
use Rattle.nuc_io.specs.Reading.{Took, AtEnd}
use Rattle.nuc_io.specs.Line.{IsOneLine}
use Rattle.nuc_script.specs.declared.fault.LineFault.{LineFault}
use Rattle.nuc_script.specs.declared.fault.LineFault.TheVariants as fault
use Rattle.nuc_script.specs.declared.fault.Stop.{Stop}
use Rattle.nuc_script.specs.declared.fault.Stop.TheVariants as stop
use Rattle.nuc_script.specs.declared.command.Command.{Command}
use Rattle.nuc_script.specs.declared.read.Next.{Next}
use Rattle.nuc_script.specs.declared.read.Next.TheVariants as next
use Rattle.nuc_script.specs.Lines.{numbered_meaning}
use Rattle.nuc_script.specs.Reading.{without_cr}

-- the fault of a line that is too long
abbrev pub too_long : ℕ → LineFault
too_long number = if nat_lt 1000000 number then fault.Many else fault.Long

-- what a line is judged by: its bytes, without its end
abbrev pub judged_text : Bool → List ℕ → List ℕ
judged_text true bytes = without_cr bytes
judged_text false bytes = bytes

-- a whole line, with its LF or not, gives what its text means
abbrev pub JudgesWhole : Bool → Result (Option Command) LineFault → Next → Type 0
JudgesWhole ended meaning (next.Line found) = (ended ≡ true) × (meaning ≡ Ok found)
JudgesWhole ended meaning (next.Last found) = (ended ≡ false) × (meaning ≡ Ok found)
JudgesWhole ended meaning next.End = ⊥
JudgesWhole ended meaning (next.Fault kind) = meaning ≡ Err kind
JudgesWhole ended meaning next.ReadFault = ⊥
JudgesWhole ended meaning next.Memory = Unit {0}

-- what stops the judging of a line
abbrev pub IsStop : Stop → Next → Type 0
IsStop (stop.Fault kind) answer = answer ≡ next.Fault kind
IsStop stop.Memory answer = answer ≡ next.Memory

-- a line with this fault, as it is cut from the bytes
pub data IsFaulty (number : ℕ) (before : List Command) (kind : LineFault) (line : List ℕ) (rest : Option (List ℕ)) : Type 0 where
  faulty_lf : (text : List ℕ) → IsOneLine text → length text ≤ 4097 → line ≡ text ++ 10 ∷ []
      → numbered_meaning number before (without_cr text) ≡ Err kind → IsFaulty number before kind line rest
  faulty_end : IsOneLine line → 0 < length line → length line ≤ 4097 → AtEnd rest
      → numbered_meaning number before line ≡ Err kind → IsFaulty number before kind line rest
  faulty_cut : IsOneLine line → length line ≡ 4098 → kind ≡ too_long number → IsFaulty number before kind line rest

-- at most one line was taken
abbrev pub TookLine : Option (List ℕ) → Option (List ℕ) → Type 0
TookLine left rest = (line : List ℕ) × (length line ≤ 4098) × Took left line rest

-- by the answer: what was left and is
abbrev pub ReadsNext : ℕ → List Command → Option (List ℕ) → Next → Option (List ℕ) → Type 0
ReadsNext number before left (next.Line found) rest =
    (text : List ℕ) × IsOneLine text × (length text ≤ 4097) × Took left (text ++ 10 ∷ []) rest × (numbered_meaning number before (without_cr text) ≡ Ok found)
ReadsNext number before left (next.Last found) rest =
    (text : List ℕ) × IsOneLine text × (0 < length text) × (length text ≤ 4097) × Took left text rest × AtEnd rest
    × (numbered_meaning number before text ≡ Ok found)
ReadsNext number before left next.End rest = AtEnd left × (rest ≡ left)
ReadsNext number before left (next.Fault kind) rest = (line : List ℕ) × IsFaulty number before kind line rest × Took left line rest
ReadsNext number before left next.ReadFault rest = TookLine left rest
ReadsNext number before left next.Memory rest = TookLine left rest

abbrev pub IsLine : Next → Type 0
IsLine (next.Line found) = Unit {0}
IsLine (next.Last found) = ⊥
IsLine next.End = ⊥
IsLine (next.Fault kind) = ⊥
IsLine next.ReadFault = ⊥
IsLine next.Memory = ⊥

-- the answers behind which the source has answered its end
abbrev pub IsEnd : Next → Type 0
IsEnd (next.Line found) = ⊥
IsEnd (next.Last found) = Unit {0}
IsEnd next.End = Unit {0}
IsEnd (next.Fault kind) = ⊥
IsEnd next.ReadFault = ⊥
IsEnd next.Memory = ⊥
