-- What the words of a line mean behind the commands before it.
use Rattle.std.specs.Prelude.{ℕ, ◌^◌, ◌==◌, Bool, false, List, [], ◌∷◌, length, Option, Some, None, Result, Ok, Err, if◌then◌else◌}
use Rattle.nuc_script.specs.declared.fault.LineFault.{LineFault}
use Rattle.nuc_script.specs.declared.fault.LineFault.TheVariants as fault
use Rattle.nuc_script.specs.declared.command.Command.{Command}
use Rattle.nuc_script.specs.declared.command.Command.TheVariants as command
use Rattle.nuc_script.specs.declared.verb.Verb.{Verb}
use Rattle.nuc_script.specs.declared.verb.Verb.TheVariants as verb
use Rattle.nuc_script.specs.declared.verb.EditVerb.{EditVerb}
use Rattle.nuc_script.specs.declared.verb.StepVerb.{StepVerb}
use Rattle.nuc_script.specs.declared.verb.StepVerb.TheVariants as step
use Rattle.nuc_script.specs.declared.verb.OperationVerb.{OperationVerb}
use Rattle.nuc_script.specs.declared.verb.OperationVerb.TheVariants as operation
use Rattle.nuc_script.specs.Meaning.{◌>>=◌}
use Rattle.nuc_script.specs.Words.{one_word, two_words, cut_word}
use Rattle.nuc_script.specs.Table.{takes}
use Rattle.nuc_script.specs.Arguments.{client_word, number_word, order_word}
use Rattle.nuc_script.specs.Edits.{edit_of, web_edit}

-- how many clients a script has that begins so: 1, unless it says otherwise
abbrev pub clients_in : Command → ℕ
clients_in (command.Clients n) = n
clients_in (command.User client edit) = 1
clients_in (command.Web edit) = 1
clients_in (command.List client) = 1
clients_in (command.Scan client) = 1
clients_in (command.Watch client) = 1
clients_in (command.Pull client) = 1
clients_in (command.Plan client) = 1
clients_in (command.Restart client) = 1
clients_in (command.Start client number) = 1
clients_in (command.Take client number) = 1
clients_in (command.Done client number) = 1
clients_in (command.Sync client reverse) = 1
clients_in (command.Fail client call) = 1

abbrev pub clients_of : List Command → ℕ
clients_of [] = 1
clients_of (command ∷ commands) = clients_in command

-- `clients N`, at the beginning alone
unfoldable pub clients_command : Bool → List (List ℕ) → Result Command LineFault
clients_command begun words = do
  word ← one_word words
  count ← if begun then Err fault.Late else number_word 16 word
  Ok (command.Clients count)

-- as many words as the edit takes
abbrev pub counted : EditVerb → List (List ℕ) → Result (List (List ℕ)) LineFault
counted verb words = if length words == takes verb then Ok words else Err fault.Count

-- a user's edit: its client, and the edit
unfoldable pub user_command : ℕ → EditVerb → List (List ℕ) → Result Command LineFault
user_command clients verb words = do
  cut ← cut_word words
  others ← counted verb cut.1
  client ← client_word clients cut.0
  edit ← edit_of verb others
  Ok (command.User client edit)

unfoldable pub web_command : List (List ℕ) → Result Command LineFault
web_command words = do
  edit ← web_edit words
  Ok (command.Web edit)

abbrev pub step_of : StepVerb → ℕ → Command
step_of step.List client = command.List client
step_of step.Scan client = command.Scan client
step_of step.Watch client = command.Watch client
step_of step.Pull client = command.Pull client
step_of step.Plan client = command.Plan client
step_of step.Restart client = command.Restart client

unfoldable pub step_command : ℕ → StepVerb → List (List ℕ) → Result Command LineFault
step_command clients verb words = do
  word ← one_word words
  client ← client_word clients word
  Ok (step_of verb client)

abbrev pub operation_of : OperationVerb → ℕ → ℕ → Command
operation_of operation.Start client number = command.Start client number
operation_of operation.Take client number = command.Take client number
operation_of operation.Done client number = command.Done client number

unfoldable pub operation_command : ℕ → OperationVerb → List (List ℕ) → Result Command LineFault
operation_command clients verb words = do
  both ← two_words words
  client ← client_word clients both.0
  number ← number_word (2 ^ 62) both.1
  Ok (operation_of verb client number)

-- `sync C`
unfoldable pub forward_command : ℕ → List (List ℕ) → Result Command LineFault
forward_command clients words = do
  word ← one_word words
  client ← client_word clients word
  Ok (command.Sync client false)

-- `sync C reverse`
unfoldable pub reverse_command : ℕ → List (List ℕ) → Result Command LineFault
reverse_command clients words = do
  both ← two_words words
  client ← client_word clients both.0
  reverse ← order_word both.1
  Ok (command.Sync client reverse)

abbrev pub sync_command : ℕ → List (List ℕ) → Result Command LineFault
sync_command clients words = if length words == 2 then reverse_command clients words else forward_command clients words

unfoldable pub fail_command : ℕ → List (List ℕ) → Result Command LineFault
fail_command clients words = do
  both ← two_words words
  client ← client_word clients both.0
  call ← number_word 1000000 both.1
  Ok (command.Fail client call)

unfoldable pub command_of : Option Verb → ℕ → Bool → List (List ℕ) → Result Command LineFault
command_of None clients begun words = Err fault.Word
command_of (Some verb.Clients) clients begun words = clients_command begun words
command_of (Some verb.Web) clients begun words = web_command words
command_of (Some (verb.Edit v)) clients begun words = user_command clients v words
command_of (Some (verb.Step v)) clients begun words = step_command clients v words
command_of (Some (verb.Operation v)) clients begun words = operation_command clients v words
command_of (Some verb.Sync) clients begun words = sync_command clients words
command_of (Some verb.Fail) clients begun words = fail_command clients words
