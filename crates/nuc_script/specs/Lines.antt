-- What a line means behind the commands before it: a command, nothing, or the first fault that applies.
use Rattle.std.specs.Prelude.{ℕ, not, ◌==◌, ◌||◌, Bool, List, [], ◌∷◌, length, Option, Some, None, Result, Ok, Err, nat_lt, if◌then◌else◌}
use Rattle.std.specs.List.{list_any}
use Rattle.nuc_script.specs.declared.fault.LineFault.{LineFault}
use Rattle.nuc_script.specs.declared.fault.LineFault.TheVariants as fault
use Rattle.nuc_script.specs.declared.command.Command.{Command}
use Rattle.nuc_script.specs.Meaning.{◌>>=◌}
use Rattle.nuc_script.specs.Escapes.{unescaped}
use Rattle.nuc_script.specs.Words.{words_of, is_comment}
use Rattle.nuc_script.specs.Table.{verb_of}
use Rattle.nuc_script.specs.Commands.{clients_of, command_of}

-- a byte that no line holds
abbrev pub is_control : ℕ → Bool
is_control b = nat_lt b 32 || (b == 127)

-- commands stand before it
abbrev pub is_begun : List Command → Bool
is_begun before = not (length before == 0)

unfoldable pub words_meaning : List Command → List (List ℕ) → Result (Option Command) LineFault
words_meaning before [] = Ok None
words_meaning before (first ∷ others) =
    if is_comment first then Ok None
    else (command_of (verb_of (unescaped first)) (clients_of before) (is_begun before) others >>= λ command. Ok (Some command))

unfoldable pub line_meaning : List Command → List ℕ → Result (Option Command) LineFault
line_meaning before line =
    if nat_lt 4096 (length line) then Err fault.Long
    else (if list_any is_control line then Err fault.Byte else words_meaning before (words_of line))

-- the same of a line with this number
abbrev pub numbered_meaning : ℕ → List Command → List ℕ → Result (Option Command) LineFault
numbered_meaning number before line = if nat_lt 1000000 number then Err fault.Many else line_meaning before line
