-- The words that say what a line does.
use Rattle.std.specs.Prelude.{ℕ, List, Option, Some, None, codes, if◌then◌else◌}
use Rattle.std.specs.Str.{bytes_eq}
use Rattle.nuc_script.specs.declared.verb.Verb.{Verb}
use Rattle.nuc_script.specs.declared.verb.Verb.TheVariants as verb
use Rattle.nuc_script.specs.declared.verb.EditVerb.{EditVerb}
use Rattle.nuc_script.specs.declared.verb.EditVerb.TheVariants as edit
use Rattle.nuc_script.specs.declared.verb.StepVerb.{StepVerb}
use Rattle.nuc_script.specs.declared.verb.StepVerb.TheVariants as step
use Rattle.nuc_script.specs.declared.verb.OperationVerb.{OperationVerb}
use Rattle.nuc_script.specs.declared.verb.OperationVerb.TheVariants as operation

-- edits, in a folder and behind `web`
abbrev pub edit_verb : List ℕ → Option EditVerb
edit_verb word =
    if bytes_eq word (codes "mkdir") then Some edit.Mkdir else (
    if bytes_eq word (codes "write") then Some edit.Write else (
    if bytes_eq word (codes "move") then Some edit.Move else (
    if bytes_eq word (codes "remove") then Some edit.Remove else (
    if bytes_eq word (codes "bit") then Some edit.Bit else None))))

-- how many words an edit has behind its own
abbrev pub takes : EditVerb → ℕ
takes edit.Mkdir = 1
takes edit.Write = 2
takes edit.Move = 2
takes edit.Remove = 1
takes edit.Bit = 2

-- steps of a client
abbrev pub step_verb : List ℕ → Option StepVerb
step_verb word =
    if bytes_eq word (codes "list") then Some step.List else (
    if bytes_eq word (codes "scan") then Some step.Scan else (
    if bytes_eq word (codes "watch") then Some step.Watch else (
    if bytes_eq word (codes "pull") then Some step.Pull else (
    if bytes_eq word (codes "plan") then Some step.Plan else (
    if bytes_eq word (codes "restart") then Some step.Restart else None)))))

-- steps of an operation
abbrev pub operation_verb : List ℕ → Option OperationVerb
operation_verb word =
    if bytes_eq word (codes "start") then Some operation.Start else (
    if bytes_eq word (codes "take") then Some operation.Take else (
    if bytes_eq word (codes "done") then Some operation.Done else None))

abbrev pub other_verb : List ℕ → Option Verb
other_verb word =
    if bytes_eq word (codes "clients") then Some verb.Clients else (
    if bytes_eq word (codes "web") then Some verb.Web else (
    if bytes_eq word (codes "sync") then Some verb.Sync else (
    if bytes_eq word (codes "fail") then Some verb.Fail else None)))

abbrev pub or_operation : Option OperationVerb → Option Verb → Option Verb
or_operation None other = other
or_operation (Some v) other = Some (verb.Operation v)

abbrev pub or_step : Option StepVerb → Option Verb → Option Verb
or_step None other = other
or_step (Some v) other = Some (verb.Step v)

abbrev pub or_edit : Option EditVerb → Option Verb → Option Verb
or_edit None other = other
or_edit (Some v) other = Some (verb.Edit v)

-- the first word of a line
abbrev pub verb_of : List ℕ → Option Verb
verb_of word = or_edit (edit_verb word) (or_step (step_verb word) (or_operation (operation_verb word) (other_verb word)))
