-- Each command that is read fits behind those before it.
use Rattle.std.proofs.Common.{◌≡◌, ℕ, ◌^◌, ◌≤◌, Bool, true, false, cond, ◌==◌, List, [], ◌∷◌, ◌++◌, length, Option, Some, None, Ok, Err, refl, sym, ap, subst, arith}
use Rattle.std.specs.List.{AllByRecursion}
use Rattle.nuc_folder.specs.declared.user_edit.UserEdit.{UserEdit}
use Rattle.nuc_folder.specs.declared.user_edit.UserEdit.TheVariants as user
use Rattle.nuc_server.specs.declared.web_edit.WebEdit.{WebEdit}
use Rattle.nuc_script.specs.declared.fault.LineFault.TheVariants as fault
use Rattle.nuc_script.specs.declared.command.Command.{Command}
use Rattle.nuc_script.specs.declared.command.Command.TheVariants as command
use Rattle.nuc_script.specs.declared.verb.Verb.{Verb}
use Rattle.nuc_script.specs.declared.verb.Verb.TheVariants as verb
use Rattle.nuc_script.specs.declared.verb.EditVerb.{EditVerb}
use Rattle.nuc_script.specs.declared.verb.EditVerb.TheVariants as edit
use Rattle.nuc_script.specs.declared.verb.StepVerb.{StepVerb}
use Rattle.nuc_script.specs.declared.verb.StepVerb.TheVariants as step
use Rattle.nuc_script.specs.declared.verb.OperationVerb.{OperationVerb}
use Rattle.nuc_script.specs.declared.verb.OperationVerb.TheVariants as operation
use Rattle.nuc_script.specs.Meaning.{◌>>=◌}
use Rattle.nuc_script.specs.Escapes.{unescaped}
use Rattle.nuc_script.specs.Words.{one_word, two_words, cut_word}
use Rattle.nuc_script.specs.Table.{edit_verb, verb_of}
use Rattle.nuc_script.specs.Arguments.{client_word, number_word, path_word, content_word, switch_word, order_word}
use Rattle.nuc_script.specs.Edits.{mkdir_edit, write_edit, move_edit, remove_edit, bit_edit, edit_of, on_web, web_edit_of, web_edit}
use Rattle.nuc_script.specs.Commands.{clients_of, clients_command, counted, user_command, web_command, step_of, step_command, operation_of, operation_command, forward_command, reverse_command, sync_command, fail_command, command_of}
use Rattle.nuc_script.specs.Lines.{is_begun, line_meaning}
use Rattle.nuc_script.specs.Reading.{pieces}
use Rattle.nuc_script.specs.Fitting.{Fits, FitsEdit, FitsWeb, IsUpTo, FitBehind, EveryScriptFits}
use Rattle.nuc_script.proofs.ArgumentsBack.{client_is, number_is}
use Rattle.nuc_script.proofs.EditsBack.{bind_ok, ok_is}
use Rattle.nuc_script.proofs.CommandsBack.{counted_is}
use Rattle.nuc_script.proofs.Fitting.{IsShort, path_word_fits, content_word_fits, words_short}
use Rattle.nuc_script.proofs.Meanings.{line_gives}
use Rattle.nuc_script.proofs.Behind.{ComeWith, IsCarried, script_behind}

abbrev AreShort : List (List ℕ) → Type 0
AreShort words = AllByRecursion (IsShort 4096) words

second_short : (words : List (List ℕ)) (both : List ℕ × List ℕ) → AreShort words → two_words words ≡ Ok both → length both.1 ≤ 4096
second_short [] both all e = absurd cc
second_short (first ∷ []) both all e = absurd cc
second_short (first ∷ second ∷ []) both (one, (two, rest)) e =
    subst (λ (p : List ℕ × List ℕ). length p.1 ≤ 4096) (ok_is (first, second) both e) two
second_short (first ∷ second ∷ next ∷ words) both all e = absurd cc

others_short : (words : List (List ℕ)) (cut : List ℕ × List (List ℕ)) → AreShort words → cut_word words ≡ Ok cut → AreShort cut.1
others_short [] cut all e = absurd cc
others_short (word ∷ words) cut all e = subst (λ (p : List ℕ × List (List ℕ)). AreShort p.1) (ok_is (word, words) cut e) all.1

-- EDITS
edit_fits : (v : EditVerb) (words : List (List ℕ)) (e : UserEdit) → AreShort words → edit_of v words ≡ Ok e → FitsEdit e
unfolding edit_of mkdir_edit write_edit move_edit remove_edit bit_edit
edit_fits edit.Mkdir words e all is =
    let a = bind_ok (one_word words) (λ word. path_word word >>= λ path. Ok (user.Mkdir path)) e is in
    let b = bind_ok (path_word a.0) (λ path. Ok (user.Mkdir path)) e a.2 in
    subst FitsEdit (ok_is (user.Mkdir b.0) e b.2) (path_word_fits a.0 b.0 b.1)
edit_fits edit.Remove words e all is =
    let a = bind_ok (one_word words) (λ word. path_word word >>= λ path. Ok (user.Remove path)) e is in
    let b = bind_ok (path_word a.0) (λ path. Ok (user.Remove path)) e a.2 in
    subst FitsEdit (ok_is (user.Remove b.0) e b.2) (path_word_fits a.0 b.0 b.1)
edit_fits edit.Write words e all is =
    let a = bind_ok (two_words words) (λ both. path_word both.0 >>= λ path. content_word both.1 >>= λ content. Ok (user.Write path content)) e is in
    let b = bind_ok (path_word a.0.0) (λ path. content_word a.0.1 >>= λ content. Ok (user.Write path content)) e a.2 in
    let c = bind_ok (content_word a.0.1) (λ content. Ok (user.Write b.0 content)) e b.2 in
    subst FitsEdit (ok_is (user.Write b.0 c.0) e c.2) (path_word_fits a.0.0 b.0 b.1, content_word_fits a.0.1 c.0 (second_short words a.0 all a.1) c.1)
edit_fits edit.Move words e all is =
    let a = bind_ok (two_words words) (λ both. path_word both.0 >>= λ from. path_word both.1 >>= λ to. Ok (user.Move from to)) e is in
    let b = bind_ok (path_word a.0.0) (λ from. path_word a.0.1 >>= λ to. Ok (user.Move from to)) e a.2 in
    let c = bind_ok (path_word a.0.1) (λ to. Ok (user.Move b.0 to)) e b.2 in
    subst FitsEdit (ok_is (user.Move b.0 c.0) e c.2) (path_word_fits a.0.0 b.0 b.1, path_word_fits a.0.1 c.0 c.1)
edit_fits edit.Bit words e all is =
    let a = bind_ok (two_words words) (λ both. path_word both.0 >>= λ path. switch_word both.1 >>= λ on. Ok (user.Bit path on)) e is in
    let b = bind_ok (path_word a.0.0) (λ path. switch_word a.0.1 >>= λ on. Ok (user.Bit path on)) e a.2 in
    let c = bind_ok (switch_word a.0.1) (λ on. Ok (user.Bit b.0 on)) e b.2 in
    subst FitsEdit (ok_is (user.Bit b.0 c.0) e c.2) (path_word_fits a.0.0 b.0 b.1)

web_fits : (e : UserEdit) → FitsEdit e → FitsWeb (on_web e)
web_fits (user.Mkdir path) fits = fits
web_fits (user.Write path content) fits = fits
web_fits (user.Move from to) fits = fits
web_fits (user.Remove path) fits = fits
web_fits (user.Bit path on) fits = fits

web_edit_fits : (o : Option EditVerb) (words : List (List ℕ)) (e : WebEdit) → AreShort words → web_edit_of o words ≡ Ok e → FitsWeb e
web_edit_fits None words e all is = absurd cc
web_edit_fits (Some v) words e all is =
    let a = bind_ok (edit_of v words) (λ edit. Ok (on_web edit)) e is in
    subst FitsWeb (ok_is (on_web a.0) e a.2) (web_fits a.0 (edit_fits v words a.0 all a.1))

-- COMMANDS
clients_fit : (clients : ℕ) (begun : Bool) (words : List (List ℕ)) (c : Command) → clients_command begun words ≡ Ok c → Fits clients begun c
unfolding clients_command
clients_fit clients true words c is =
    let a = bind_ok (one_word words) (λ word. (Err fault.Late) >>= λ count. Ok (command.Clients count)) c is in
    absurd cc
clients_fit clients false words c is =
    let a = bind_ok (one_word words) (λ word. number_word 16 word >>= λ count. Ok (command.Clients count)) c is in
    let b = bind_ok (number_word 16 a.0) (λ count. Ok (command.Clients count)) c a.2 in
    subst (Fits clients false) (ok_is (command.Clients b.0) c b.2) (refl, number_is 16 b.0 a.0 b.1)

step_fits : (clients : ℕ) (begun : Bool) (v : StepVerb) (client : ℕ) → IsUpTo clients client → Fits clients begun (step_of v client)
step_fits clients begun step.List client is = is
step_fits clients begun step.Scan client is = is
step_fits clients begun step.Watch client is = is
step_fits clients begun step.Pull client is = is
step_fits clients begun step.Plan client is = is
step_fits clients begun step.Restart client is = is

steps_fit : (clients : ℕ) (begun : Bool) (v : StepVerb) (words : List (List ℕ)) (c : Command) → step_command clients v words ≡ Ok c → Fits clients begun c
unfolding step_command
steps_fit clients begun v words c is =
    let a = bind_ok (one_word words) (λ word. client_word clients word >>= λ client. Ok (step_of v client)) c is in
    let b = bind_ok (client_word clients a.0) (λ client. Ok (step_of v client)) c a.2 in
    subst (Fits clients begun) (ok_is (step_of v b.0) c b.2) (step_fits clients begun v b.0 (client_is clients b.0 a.0 b.1))

operation_fits : (clients : ℕ) (begun : Bool) (v : OperationVerb) (client number : ℕ) → IsUpTo clients client → IsUpTo (2 ^ 62) number
    → Fits clients begun (operation_of v client number)
operation_fits clients begun operation.Start client number is counted = (is, counted)
operation_fits clients begun operation.Take client number is counted = (is, counted)
operation_fits clients begun operation.Done client number is counted = (is, counted)

operations_fit : (clients : ℕ) (begun : Bool) (v : OperationVerb) (words : List (List ℕ)) (c : Command) → operation_command clients v words ≡ Ok c
    → Fits clients begun c
unfolding operation_command
operations_fit clients begun v words c is =
    let a = bind_ok (two_words words) (λ both. client_word clients both.0 >>= λ client. number_word (2 ^ 62) both.1 >>= λ number. Ok (operation_of v client number)) c is in
    let b = bind_ok (client_word clients a.0.0) (λ client. number_word (2 ^ 62) a.0.1 >>= λ number. Ok (operation_of v client number)) c a.2 in
    let d = bind_ok (number_word (2 ^ 62) a.0.1) (λ number. Ok (operation_of v b.0 number)) c b.2 in
    subst (Fits clients begun) (ok_is (operation_of v b.0 d.0) c d.2)
    (operation_fits clients begun v b.0 d.0 (client_is clients b.0 a.0.0 b.1) (number_is (2 ^ 62) d.0 a.0.1 d.1))

forward_fits : (clients : ℕ) (begun : Bool) (words : List (List ℕ)) (c : Command) → forward_command clients words ≡ Ok c → Fits clients begun c
unfolding forward_command
forward_fits clients begun words c is =
    let a = bind_ok (one_word words) (λ word. client_word clients word >>= λ client. Ok (command.Sync client false)) c is in
    let b = bind_ok (client_word clients a.0) (λ client. Ok (command.Sync client false)) c a.2 in
    subst (Fits clients begun) (ok_is (command.Sync b.0 false) c b.2) (client_is clients b.0 a.0 b.1)

reverse_fits : (clients : ℕ) (begun : Bool) (words : List (List ℕ)) (c : Command) → reverse_command clients words ≡ Ok c → Fits clients begun c
unfolding reverse_command
reverse_fits clients begun words c is =
    let a = bind_ok (two_words words) (λ both. client_word clients both.0 >>= λ client. order_word both.1 >>= λ reverse. Ok (command.Sync client reverse)) c is in
    let b = bind_ok (client_word clients a.0.0) (λ client. order_word a.0.1 >>= λ reverse. Ok (command.Sync client reverse)) c a.2 in
    let d = bind_ok (order_word a.0.1) (λ reverse. Ok (command.Sync b.0 reverse)) c b.2 in
    subst (Fits clients begun) (ok_is (command.Sync b.0 d.0) c d.2) (client_is clients b.0 a.0.0 b.1)

sync_fits : (clients : ℕ) (begun : Bool) (words : List (List ℕ)) (c : Command) → sync_command clients words ≡ Ok c → Fits clients begun c
sync_fits clients begun words c is =
    elim (length words == 2) as (λ t. cond t (reverse_command clients words) (forward_command clients words) ≡ Ok c → Fits clients begun c) [
      | true ↦ λ e. reverse_fits clients begun words c e
      | false ↦ λ e. forward_fits clients begun words c e
    ] is

fail_fits : (clients : ℕ) (begun : Bool) (words : List (List ℕ)) (c : Command) → fail_command clients words ≡ Ok c → Fits clients begun c
unfolding fail_command
fail_fits clients begun words c is =
    let a = bind_ok (two_words words) (λ both. client_word clients both.0 >>= λ client. number_word 1000000 both.1 >>= λ call. Ok (command.Fail client call)) c is in
    let b = bind_ok (client_word clients a.0.0) (λ client. number_word 1000000 a.0.1 >>= λ call. Ok (command.Fail client call)) c a.2 in
    let d = bind_ok (number_word 1000000 a.0.1) (λ call. Ok (command.Fail b.0 call)) c b.2 in
    subst (Fits clients begun) (ok_is (command.Fail b.0 d.0) c d.2) (client_is clients b.0 a.0.0 b.1, number_is 1000000 d.0 a.0.1 d.1)

user_fits : (clients : ℕ) (begun : Bool) (v : EditVerb) (words : List (List ℕ)) (c : Command) → AreShort words → user_command clients v words ≡ Ok c
    → Fits clients begun c
unfolding user_command
user_fits clients begun v words c all is =
    let a = bind_ok (cut_word words) (λ cut. counted v cut.1 >>= λ others. client_word clients cut.0 >>= λ client. edit_of v others >>= λ edit. Ok (command.User client edit)) c is in
    let b = bind_ok (counted v a.0.1) (λ others. client_word clients a.0.0 >>= λ client. edit_of v others >>= λ edit. Ok (command.User client edit)) c a.2 in
    let d = bind_ok (client_word clients a.0.0) (λ client. edit_of v b.0 >>= λ edit. Ok (command.User client edit)) c b.2 in
    let f = bind_ok (edit_of v b.0) (λ edit. Ok (command.User d.0 edit)) c d.2 in
    let short = subst AreShort (counted_is v a.0.1 b.0 b.1) (others_short words a.0 all a.1) in
    subst (Fits clients begun) (ok_is (command.User d.0 f.0) c f.2) (client_is clients d.0 a.0.0 d.1, edit_fits v b.0 f.0 short f.1)

web_command_fits : (clients : ℕ) (begun : Bool) (words : List (List ℕ)) (c : Command) → AreShort words → web_command words ≡ Ok c → Fits clients begun c
unfolding web_command web_edit
web_command_fits clients begun words c all is =
    let a = bind_ok (web_edit words) (λ edit. Ok (command.Web edit)) c is in
    let b = bind_ok (cut_word words) (λ cut. web_edit_of (edit_verb (unescaped cut.0)) cut.1) a.0 a.1 in
    subst (Fits clients begun) (ok_is (command.Web a.0) c a.2)
    (web_edit_fits (edit_verb (unescaped b.0.0)) b.0.1 a.0 (others_short words b.0 all b.1) b.2)

command_fits : (o : Option Verb) (clients : ℕ) (begun : Bool) (words : List (List ℕ)) (c : Command) → AreShort words
    → command_of o clients begun words ≡ Ok c → Fits clients begun c
unfolding command_of
command_fits None clients begun words c all is = absurd cc
command_fits (Some verb.Clients) clients begun words c all is = clients_fit clients begun words c is
command_fits (Some verb.Web) clients begun words c all is = web_command_fits clients begun words c all is
command_fits (Some (verb.Edit v)) clients begun words c all is = user_fits clients begun v words c all is
command_fits (Some (verb.Step v)) clients begun words c all is = steps_fit clients begun v words c is
command_fits (Some (verb.Operation v)) clients begun words c all is = operations_fit clients begun v words c is
command_fits (Some verb.Sync) clients begun words c all is = sync_fits clients begun words c is
command_fits (Some verb.Fail) clients begun words c all is = fail_fits clients begun words c is

-- LINES
abbrev FitsAt : List Command → Command → Type 0
FitsAt before c = Fits (clients_of before) (is_begun before) c

line_fits : (before : List Command) (line : List ℕ) (c : Command) → line_meaning before line ≡ Ok (Some c) → FitsAt before c
line_fits before line c is =
    let (short, gives) = line_gives before line c is in
    let words = subst AreShort gives.cut (words_short line short) in
    command_fits (verb_of (unescaped gives.first)) (clients_of before) (is_begun before) gives.others c words.1 gives.command

-- SCRIPTS
abbrev Any : {A : Type 0} → A → Type 0
Any x = Unit {0}

carried : IsCarried FitsAt Any Any
carried = record { given = λ before line c ready good is. line_fits before line c is; ready = λ before c ready is. tt; ended = λ line good. tt }

any_lines : (lines : List (List ℕ)) → AllByRecursion Any lines
any_lines [] = tt
any_lines (line ∷ lines) = (tt, any_lines lines)

fit_behind : (before cs : List Command) → ComeWith FitsAt before cs → FitBehind before cs
fit_behind before [] come = tt
fit_behind before (c ∷ cs) (here, later) = (here, fit_behind (before ++ c ∷ []) cs later)

pub every_script_fits : EveryScriptFits
every_script_fits bytes commands is =
    let behind = script_behind FitsAt Any Any carried 1 [] (pieces bytes) commands (omega arith) tt (any_lines (pieces bytes)) is in
    (subst (FitBehind []) (sym behind.whole) (fit_behind [] behind.commands behind.come), omega (arith, behind.count, ap length behind.whole))
