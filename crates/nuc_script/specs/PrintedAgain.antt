-- What is printed of commands that were read gives them again.
use Rattle.std.specs.Prelude.{◌≡◌, ℕ, ◌<◌, ◌≤◌, List, length}
use Rattle.std.specs.List.{AllByRecursion}
use Rattle.nuc_script.specs.declared.command.Command.{Command}
use Rattle.nuc_script.specs.declared.script_read.ScriptRead.TheVariants as read
use Rattle.nuc_script.specs.Reading.{script_of}
use Rattle.nuc_script.specs.Text.{command_line, script_text}

-- where no printed line is too long: escapes can make it longer than the one that was read
abbrev pub PrintedAgain : Type 0
PrintedAgain = (bytes : List ℕ) (commands : List Command) → AllByRecursion (λ b. b < 256) bytes → script_of bytes ≡ read.Commands commands
    → AllByRecursion (λ command. length (command_line command) ≤ 4096) commands → script_of (script_text commands) ≡ read.Commands commands
