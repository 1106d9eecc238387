-- Each command that is printed is read again.
use Rattle.std.proofs.Common.{◌≡◌, ℕ, ◌^◌, ◌≤◌, ◌<◌, Bool, true, false, cond, ◌==◌, List, [], ◌∷◌, length, Option, Some, None, Ok, Err, codes, refl, ap, subst, ◌∙◌, arith}
use Rattle.std.specs.Prelude.{decimal}
use Rattle.std.specs.List.{AllByRecursion}
use Rattle.nuc_folder.specs.declared.user_edit.UserEdit.{UserEdit}
use Rattle.nuc_server.specs.declared.web_edit.WebEdit.{WebEdit}
use Rattle.nuc_script.specs.declared.fault.LineFault.TheVariants as fault
use Rattle.nuc_script.specs.declared.command.Command.{Command}
use Rattle.nuc_script.specs.declared.command.Command.TheVariants as command
use Rattle.nuc_script.specs.declared.verb.Verb.{Verb}
use Rattle.nuc_script.specs.declared.verb.Verb.TheVariants as verb
use Rattle.nuc_script.specs.declared.verb.EditVerb.{EditVerb}
use Rattle.nuc_script.specs.declared.verb.StepVerb.{StepVerb}
use Rattle.nuc_script.specs.declared.verb.StepVerb.TheVariants as step
use Rattle.nuc_script.specs.declared.verb.OperationVerb.{OperationVerb}
use Rattle.nuc_script.specs.declared.verb.OperationVerb.TheVariants as operation
use Rattle.nuc_script.specs.Meaning.{◌>>=◌}
use Rattle.nuc_script.specs.Escapes.{unescaped}
use Rattle.nuc_script.specs.Words.{one_word, two_words, cut_word, is_comment}
use Rattle.nuc_script.specs.Table.{edit_verb, takes, verb_of}
use Rattle.nuc_script.specs.Arguments.{client_word, number_word, order_word}
use Rattle.nuc_script.specs.Edits.{edit_of, on_web, web_edit_of, web_edit}
use Rattle.nuc_script.specs.Commands.{clients_in, clients_command, counted, user_command, web_command, step_of, step_command, operation_of, operation_command, forward_command, reverse_command, sync_command, fail_command, command_of}
use Rattle.nuc_script.specs.Text.{command_words}
use Rattle.nuc_script.proofs.JoinedWords.{IsWord}
use Rattle.nuc_script.proofs.Bytes.{AreBytes}
use Rattle.nuc_script.proofs.ArgumentsBack.{client_is, client_back, number_is, number_back, decimal_word, literal, order_is, order_back}
use Rattle.nuc_script.proofs.EditsBack.{bind_ok, ok_is, edit_kind, verb_text, edit_args, user_words_are, web_words_are, verb_word, verb_read, first_read, verb_no_comment, EditAgain, edit_again}

-- the words of the command, printed, give it again
pub record CommandAgain (clients : ℕ) (begun : Bool) (c : Command) : Type 0 where
  pub first : List ℕ
  pub others : List (List ℕ)
  pub words : command_words c ≡ first ∷ others
  pub is_first : IsWord first
  pub are_others : AllByRecursion IsWord others
  pub no_comment : is_comment first ≡ false
  pub again : command_of (verb_of (unescaped first)) clients begun others ≡ Ok c
  pub few : clients_in c ≤ 16

-- CLIENTS
clients_again : (clients : ℕ) (begun : Bool) (words : List (List ℕ)) (c : Command) → clients_command begun words ≡ Ok c → CommandAgain clients begun c
unfolding clients_command command_of
clients_again clients true words c is =
    let a = bind_ok (one_word words) (λ word. (Err fault.Late) >>= λ count. Ok (command.Clients count)) c is in
    absurd cc
clients_again clients false words c is =
    let a = bind_ok (one_word words) (λ word. number_word 16 word >>= λ count. Ok (command.Clients count)) c is in
    let b = bind_ok (number_word 16 a.0) (λ count. Ok (command.Clients count)) c a.2 in
    let (low, high) = number_is 16 b.0 a.0 b.1 in
    let small : b.0 < 2 ^ 64 = omega (arith, high) in
    subst (CommandAgain clients false) (ok_is (command.Clients b.0) c b.2) (record {
      first = codes "clients";
      others = decimal b.0 ∷ [];
      words = refl;
      is_first = literal _ _ refl;
      are_others = (decimal_word b.0 small, tt);
      no_comment = refl;
      again = ap (λ r. r >>= λ count. Ok (command.Clients count)) (number_back 16 b.0 low high small);
      few = high;
    })

-- STEPS OF A CLIENT
abbrev step_text : StepVerb → List ℕ
step_text step.List = codes "list"
step_text step.Scan = codes "scan"
step_text step.Watch = codes "watch"
step_text step.Pull = codes "pull"
step_text step.Plan = codes "plan"
step_text step.Restart = codes "restart"

step_words : (v : StepVerb) (client : ℕ) → command_words (step_of v client) ≡ step_text v ∷ decimal client ∷ []
step_words step.List client = refl
step_words step.Scan client = refl
step_words step.Watch client = refl
step_words step.Pull client = refl
step_words step.Plan client = refl
step_words step.Restart client = refl

step_few : (v : StepVerb) (client : ℕ) → clients_in (step_of v client) ≡ 1
step_few step.List client = refl
step_few step.Scan client = refl
step_few step.Watch client = refl
step_few step.Pull client = refl
step_few step.Plan client = refl
step_few step.Restart client = refl

step_read : (v : StepVerb) → (verb_of (unescaped (step_text v)) ≡ Some (verb.Step v)) × (is_comment (step_text v) ≡ false) × IsWord (step_text v)
step_read step.List = (refl, refl, literal _ _ refl)
step_read step.Scan = (refl, refl, literal _ _ refl)
step_read step.Watch = (refl, refl, literal _ _ refl)
step_read step.Pull = (refl, refl, literal _ _ refl)
step_read step.Plan = (refl, refl, literal _ _ refl)
step_read step.Restart = (refl, refl, literal _ _ refl)

step_again : (clients : ℕ) (begun : Bool) (v : StepVerb) (words : List (List ℕ)) (c : Command) → clients ≤ 16 → step_command clients v words ≡ Ok c
    → CommandAgain clients begun c
unfolding step_command command_of
step_again clients begun v words c few is =
    let a = bind_ok (one_word words) (λ word. client_word clients word >>= λ client. Ok (step_of v client)) c is in
    let b = bind_ok (client_word clients a.0) (λ client. Ok (step_of v client)) c a.2 in
    let (low, high) = client_is clients b.0 a.0 b.1 in
    let small : b.0 < 2 ^ 64 = omega (arith, high, few) in
    let (read, no_comment, word) = step_read v in
    subst (CommandAgain clients begun) (ok_is (step_of v b.0) c b.2) (record {
      first = step_text v;
      others = decimal b.0 ∷ [];
      words = step_words v b.0;
      is_first = word;
      are_others = (decimal_word b.0 small, tt);
      no_comment = no_comment;
      again =
          ap (λ o. command_of o clients begun (decimal b.0 ∷ [])) read
          ∙ ap (λ r. r >>= λ client. Ok (step_of v client)) (client_back clients b.0 low high small);
      few = omega (arith, step_few v b.0);
    })

-- STEPS OF AN OPERATION
abbrev operation_text : OperationVerb → List ℕ
operation_text operation.Start = codes "start"
operation_text operation.Take = codes "take"
operation_text operation.Done = codes "done"

operation_words : (v : OperationVerb) (client number : ℕ) → command_words (operation_of v client number) ≡ operation_text v ∷ decimal client ∷ decimal number ∷ []
operation_words operation.Start client number = refl
operation_words operation.Take client number = refl
operation_words operation.Done client number = refl

operation_few : (v : OperationVerb) (client number : ℕ) → clients_in (operation_of v client number) ≡ 1
operation_few operation.Start client number = refl
operation_few operation.Take client number = refl
operation_few operation.Done client number = refl

operation_read : (v : OperationVerb)
    → (verb_of (unescaped (operation_text v)) ≡ Some (verb.Operation v)) × (is_comment (operation_text v) ≡ false) × IsWord (operation_text v)
operation_read operation.Start = (refl, refl, literal _ _ refl)
operation_read operation.Take = (refl, refl, literal _ _ refl)
operation_read operation.Done = (refl, refl, literal _ _ refl)

operation_again : (clients : ℕ) (begun : Bool) (v : OperationVerb) (words : List (List ℕ)) (c : Command) → clients ≤ 16
    → operation_command clients v words ≡ Ok c → CommandAgain clients begun c
unfolding operation_command command_of
operation_again clients begun v words c few is =
    let a = bind_ok (two_words words) (λ both. client_word clients both.0 >>= λ client. number_word (2 ^ 62) both.1 >>= λ number. Ok (operation_of v client number)) c is in
    let b = bind_ok (client_word clients a.0.0) (λ client. number_word (2 ^ 62) a.0.1 >>= λ number. Ok (operation_of v client number)) c a.2 in
    let d = bind_ok (number_word (2 ^ 62) a.0.1) (λ number. Ok (operation_of v b.0 number)) c b.2 in
    let (low, high) = client_is clients b.0 a.0.0 b.1 in
    let (least, most) = number_is (2 ^ 62) d.0 a.0.1 d.1 in
    let small : b.0 < 2 ^ 64 = omega (arith, high, few) in
    let short : d.0 < 2 ^ 64 = omega (arith, most) in
    let (read, no_comment, word) = operation_read v in
    subst (CommandAgain clients begun) (ok_is (operation_of v b.0 d.0) c d.2) (record {
      first = operation_text v;
      others = decimal b.0 ∷ decimal d.0 ∷ [];
      words = operation_words v b.0 d.0;
      is_first = word;
      are_others = (decimal_word b.0 small, (decimal_word d.0 short, tt));
      no_comment = no_comment;
      again =
          ap (λ o. command_of o clients begun (decimal b.0 ∷ decimal d.0 ∷ [])) read
          ∙ ap (λ r. r >>= λ client. number_word (2 ^ 62) (decimal d.0) >>= λ number. Ok (operation_of v client number)) (client_back clients b.0 low high small)
          ∙ ap (λ r. r >>= λ number. Ok (operation_of v b.0 number)) (number_back (2 ^ 62) d.0 least most short);
      few = omega (arith, operation_few v b.0 d.0);
    })

-- SYNC
forward_again : (clients : ℕ) (begun : Bool) (words : List (List ℕ)) (c : Command) → clients ≤ 16 → forward_command clients words ≡ Ok c
    → CommandAgain clients begun c
unfolding forward_command command_of
forward_again clients begun words c few is =
    let a = bind_ok (one_word words) (λ word. client_word clients word >>= λ client. Ok (command.Sync client false)) c is in
    let b = bind_ok (client_word clients a.0) (λ client. Ok (command.Sync client false)) c a.2 in
    let (low, high) = client_is clients b.0 a.0 b.1 in
    let small : b.0 < 2 ^ 64 = omega (arith, high, few) in
    subst (CommandAgain clients begun) (ok_is (command.Sync b.0 false) c b.2) (record {
      first = codes "sync";
      others = decimal b.0 ∷ [];
      words = refl;
      is_first = literal _ _ refl;
      are_others = (decimal_word b.0 small, tt);
      no_comment = refl;
      again = ap (λ r. r >>= λ client. Ok (command.Sync client false)) (client_back clients b.0 low high small);
      few = omega arith;
    })

reverse_made : (clients : ℕ) (begun : Bool) (client : ℕ) (reverse : Bool) → reverse ≡ true → 1 ≤ client → client ≤ clients → clients ≤ 16
    → CommandAgain clients begun (command.Sync client reverse)
unfolding reverse_command command_of
reverse_made clients begun client false e low high few = absurd cc
reverse_made clients begun client true e low high few =
    let small : client < 2 ^ 64 = omega (arith, high, few) in
    record {
      first = codes "sync";
      others = decimal client ∷ codes "reverse" ∷ [];
      words = refl;
      is_first = literal _ _ refl;
      are_others = (decimal_word client small, (literal _ _ refl, tt));
      no_comment = refl;
      again =
          ap (λ r. r >>= λ x. order_word (codes "reverse") >>= λ reverse. Ok (command.Sync x reverse)) (client_back clients client low high small)
          ∙ ap (λ r. r >>= λ reverse. Ok (command.Sync client reverse)) order_back;
      few = omega arith;
    }

reverse_again : (clients : ℕ) (begun : Bool) (words : List (List ℕ)) (c : Command) → clients ≤ 16 → reverse_command clients words ≡ Ok c
    → CommandAgain clients begun c
unfolding reverse_command
reverse_again clients begun words c few is =
    let a = bind_ok (two_words words) (λ both. client_word clients both.0 >>= λ client. order_word both.1 >>= λ reverse. Ok (command.Sync client reverse)) c is in
    let b = bind_ok (client_word clients a.0.0) (λ client. order_word a.0.1 >>= λ reverse. Ok (command.Sync client reverse)) c a.2 in
    let d = bind_ok (order_word a.0.1) (λ reverse. Ok (command.Sync b.0 reverse)) c b.2 in
    let (low, high) = client_is clients b.0 a.0.0 b.1 in
    subst (CommandAgain clients begun) (ok_is (command.Sync b.0 d.0) c d.2) (reverse_made clients begun b.0 d.0 (order_is a.0.1 d.0 d.1) low high few)

sync_again : (clients : ℕ) (begun : Bool) (words : List (List ℕ)) (c : Command) → clients ≤ 16 → sync_command clients words ≡ Ok c
    → CommandAgain clients begun c
sync_again clients begun words c few is =
    elim (length words == 2) as (λ t. cond t (reverse_command clients words) (forward_command clients words) ≡ Ok c → CommandAgain clients begun c) [
      | true ↦ λ e. reverse_again clients begun words c few e
      | false ↦ λ e. forward_again clients begun words c few e
    ] is

-- FAIL
fail_again : (clients : ℕ) (begun : Bool) (words : List (List ℕ)) (c : Command) → clients ≤ 16 → fail_command clients words ≡ Ok c → CommandAgain clients begun c
unfolding fail_command command_of
fail_again clients begun words c few is =
    let a = bind_ok (two_words words) (λ both. client_word clients both.0 >>= λ client. number_word 1000000 both.1 >>= λ call. Ok (command.Fail client call)) c is in
    let b = bind_ok (client_word clients a.0.0) (λ client. number_word 1000000 a.0.1 >>= λ call. Ok (command.Fail client call)) c a.2 in
    let d = bind_ok (number_word 1000000 a.0.1) (λ call. Ok (command.Fail b.0 call)) c b.2 in
    let (low, high) = client_is clients b.0 a.0.0 b.1 in
    let (least, most) = number_is 1000000 d.0 a.0.1 d.1 in
    let small : b.0 < 2 ^ 64 = omega (arith, high, few) in
    let short : d.0 < 2 ^ 64 = omega (arith, most) in
    subst (CommandAgain clients begun) (ok_is (command.Fail b.0 d.0) c d.2) (record {
      first = codes "fail";
      others = decimal b.0 ∷ decimal d.0 ∷ [];
      words = refl;
      is_first = literal _ _ refl;
      are_others = (decimal_word b.0 small, (decimal_word d.0 short, tt));
      no_comment = refl;
      again =
          ap (λ r. r >>= λ client. number_word 1000000 (decimal d.0) >>= λ call. Ok (command.Fail client call)) (client_back clients b.0 low high small)
          ∙ ap (λ r. r >>= λ call. Ok (command.Fail b.0 call)) (number_back 1000000 d.0 least most short);
      few = omega arith;
    })

-- EDITS
cut_bytes : (words : List (List ℕ)) (cut : List ℕ × List (List ℕ)) → AllByRecursion AreBytes words → cut_word words ≡ Ok cut → AllByRecursion AreBytes cut.1
cut_bytes [] cut all e = absurd cc
cut_bytes (word ∷ words) cut all e = subst (λ (p : List ℕ × List (List ℕ)). AllByRecursion AreBytes p.1) (ok_is (word, words) cut e) all.1

pub counted_is : (v : EditVerb) (words others : List (List ℕ)) → counted v words ≡ Ok others → words ≡ others
counted_is v words others e =
    elim (length words == takes v) as (λ t. cond t (Ok words) (Err fault.Count) ≡ Ok others → words ≡ others) [
      | true ↦ λ h. ok_is words others h
      | false ↦ λ h. absurd cc
    ] e

user_made : (clients : ℕ) (begun : Bool) (client : ℕ) (e : UserEdit) → 1 ≤ client → client ≤ clients → clients ≤ 16 → EditAgain e
    → CommandAgain clients begun (command.User client e)
unfolding user_command command_of
user_made clients begun client e low high few is =
    let small : client < 2 ^ 64 = omega (arith, high, few) in
    let v = edit_kind e in
    record {
      first = verb_text v;
      others = decimal client ∷ edit_args e;
      words = user_words_are client e;
      is_first = verb_word v;
      are_others = (decimal_word client small, is.args);
      no_comment = verb_no_comment v;
      again =
          ap (λ o. command_of o clients begun (decimal client ∷ edit_args e)) (first_read v)
          ∙ ap (λ t. cond t (Ok (edit_args e)) (Err fault.Count) >>= λ others. client_word clients (decimal client) >>= λ x. edit_of v others >>= λ edit. Ok (command.User x edit)) is.counted
          ∙ ap (λ r. r >>= λ x. edit_of v (edit_args e) >>= λ edit. Ok (command.User x edit)) (client_back clients client low high small)
          ∙ ap (λ r. r >>= λ edit. Ok (command.User client edit)) is.again;
      few = omega arith;
    }

user_again : (clients : ℕ) (begun : Bool) (v : EditVerb) (words : List (List ℕ)) (c : Command) → clients ≤ 16 → AllByRecursion AreBytes words
    → user_command clients v words ≡ Ok c → CommandAgain clients begun c
unfolding user_command
user_again clients begun v words c few all is =
    let a = bind_ok (cut_word words) (λ cut. counted v cut.1 >>= λ others. client_word clients cut.0 >>= λ client. edit_of v others >>= λ edit. Ok (command.User client edit)) c is in
    let b = bind_ok (counted v a.0.1) (λ others. client_word clients a.0.0 >>= λ client. edit_of v others >>= λ edit. Ok (command.User client edit)) c a.2 in
    let d = bind_ok (client_word clients a.0.0) (λ client. edit_of v b.0 >>= λ edit. Ok (command.User client edit)) c b.2 in
    let f = bind_ok (edit_of v b.0) (λ edit. Ok (command.User d.0 edit)) c d.2 in
    let bytes = subst (AllByRecursion AreBytes) (counted_is v a.0.1 b.0 b.1) (cut_bytes words a.0 all a.1) in
    let (low, high) = client_is clients d.0 a.0.0 d.1 in
    subst (CommandAgain clients begun) (ok_is (command.User d.0 f.0) c f.2) (user_made clients begun d.0 f.0 low high few (edit_again v b.0 f.0 bytes f.1))

web_made : (clients : ℕ) (begun : Bool) (e : UserEdit) → EditAgain e → CommandAgain clients begun (command.Web (on_web e))
unfolding web_command web_edit command_of
web_made clients begun e is =
    let v = edit_kind e in
    record {
      first = codes "web";
      others = verb_text v ∷ edit_args e;
      words = web_words_are e;
      is_first = literal _ _ refl;
      are_others = (verb_word v, is.args);
      no_comment = refl;
      again =
          ap (λ o. web_edit_of o (edit_args e) >>= λ edit. Ok (command.Web edit)) (verb_read v)
          ∙ ap (λ r. (r >>= λ edit. Ok (on_web edit)) >>= λ edit. Ok (command.Web edit)) is.again;
      few = omega arith;
    }

web_edit_is : (o : Option EditVerb) (words : List (List ℕ)) (e : WebEdit) → AllByRecursion AreBytes words → web_edit_of o words ≡ Ok e
    → (f : UserEdit) × (on_web f ≡ e) × EditAgain f
web_edit_is None words e all is = absurd cc
web_edit_is (Some v) words e all is =
    let a = bind_ok (edit_of v words) (λ edit. Ok (on_web edit)) e is in
    (a.0, ok_is (on_web a.0) e a.2, edit_again v words a.0 all a.1)

web_again : (clients : ℕ) (begun : Bool) (words : List (List ℕ)) (c : Command) → AllByRecursion AreBytes words → web_command words ≡ Ok c
    → CommandAgain clients begun c
unfolding web_command web_edit
web_again clients begun words c all is =
    let a = bind_ok (web_edit words) (λ edit. Ok (command.Web edit)) c is in
    let b = bind_ok (cut_word words) (λ cut. web_edit_of (edit_verb (unescaped cut.0)) cut.1) a.0 a.1 in
    let (f, same, again) = web_edit_is (edit_verb (unescaped b.0.0)) b.0.1 a.0 (cut_bytes words b.0 all b.1) b.2 in
    subst (CommandAgain clients begun) (ap command.Web same ∙ ok_is (command.Web a.0) c a.2) (web_made clients begun f again)

pub command_again : (o : Option Verb) (clients : ℕ) (begun : Bool) (words : List (List ℕ)) (c : Command) → clients ≤ 16 → AllByRecursion AreBytes words
    → command_of o clients begun words ≡ Ok c → CommandAgain clients begun c
unfolding command_of
command_again None clients begun words c few all is = absurd cc
command_again (Some verb.Clients) clients begun words c few all is = clients_again clients begun words c is
command_again (Some verb.Web) clients begun words c few all is = web_again clients begun words c all is
command_again (Some (verb.Edit v)) clients begun words c few all is = user_again clients begun v words c few all is
command_again (Some (verb.Step v)) clients begun words c few all is = step_again clients begun v words c few is
command_again (Some (verb.Operation v)) clients begun words c few all is = operation_again clients begun v words c few is
command_again (Some verb.Sync) clients begun words c few all is = sync_again clients begun words c few is
command_again (Some verb.Fail) clients begun words c few all is = fail_again clients begun words c few is
