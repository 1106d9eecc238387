-- What the bytes of a script mean.
use Rattle.std.specs.Prelude.{ℕ, ◌+◌, ◌==◌, List, [], ◌∷◌, ◌++◌, length, Option, Some, None, Result, Ok, Err, if◌then◌else◌}
use Rattle.std.specs.List.{slice_split}
use Rattle.nuc_script.specs.declared.fault.LineFault.{LineFault}
use Rattle.nuc_script.specs.declared.command.Command.{Command}
use Rattle.nuc_script.specs.declared.script_read.ScriptRead.{ScriptRead}
use Rattle.nuc_script.specs.declared.script_read.ScriptRead.TheVariants as read
use Rattle.nuc_script.specs.Lines.{numbered_meaning}

-- a line without the one CR before its LF
abbrev pub without_cr : List ℕ → List ℕ
without_cr [] = []
without_cr (b ∷ []) = if b == 13 then [] else (b ∷ [])
without_cr (b ∷ next ∷ bytes) = b ∷ without_cr (next ∷ bytes)

abbrev pub added : List Command → Option Command → List Command
added before None = before
added before (Some command) = before ++ command ∷ []

-- the first fault is the answer; else what comes later is
abbrev pub goes_on : ℕ → List Command → Result (Option Command) LineFault → (List Command → ScriptRead) → ScriptRead
goes_on number before (Ok found) later = later (added before found)
goes_on number before (Err kind) later = read.Fault number kind

-- what stands between the LFs of a text: its lines, and what is left behind the last LF
abbrev pub pieces : List ℕ → List (List ℕ)
pieces bytes = slice_split (λ b. b == 10) bytes

-- the answer for these lines, from this number on, behind the commands before; what is left at the end is a line where it isn't empty
unfoldable pub script_from : ℕ → List Command → List (List ℕ) → ScriptRead
script_from number before [] = read.Commands before
script_from number before (last ∷ []) =
    if length last == 0 then read.Commands before
    else goes_on number before (numbered_meaning number before last) (λ commands. read.Commands commands)
script_from number before (line ∷ next ∷ lines) =
    goes_on number before (numbered_meaning number before (without_cr line)) (λ commands. script_from (number + 1) commands (next ∷ lines))

-- the answer for these bytes: their commands, or the first faulty line
abbrev pub script_of : List ℕ → ScriptRead
script_of bytes = script_from 1 [] (pieces bytes)
