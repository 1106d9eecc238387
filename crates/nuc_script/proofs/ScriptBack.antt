-- A script that is printed is read again.
use Rattle.std.proofs.Common.{◌≡◌, ℕ, ◌+◌, ◌≤◌, true, false, cond, ◌==◌, List, [], ◌∷◌, ◌++◌, length, Some, Ok, Err, sym, ap, subst, ◌∙◌, arith, append_assoc}
use Rattle.std.specs.Prelude.{nat_lt}
use Rattle.std.specs.List.{AllByRecursion, list_any}
use Rattle.std.proofs.lemmas.List.{append-nil}
use Rattle.std.proofs.lemmas.List.Concat.{flat_map-cons}
use Rattle.std.proofs.lemmas.Bool.Decides.{nat_tests}
use Rattle.nuc_script.specs.declared.fault.LineFault.TheVariants as fault
use Rattle.nuc_script.specs.declared.command.Command.{Command}
use Rattle.nuc_script.specs.declared.script_read.ScriptRead.TheVariants as read
use Rattle.nuc_script.specs.Meaning.{◌>>=◌}
use Rattle.nuc_script.specs.Escapes.{unescaped}
use Rattle.nuc_script.specs.Words.{words_of}
use Rattle.nuc_script.specs.Table.{verb_of}
use Rattle.nuc_script.specs.Commands.{clients_in, clients_of}
use Rattle.nuc_script.specs.Lines.{is_control, is_begun, words_meaning, line_meaning, numbered_meaning}
use Rattle.nuc_script.specs.Reading.{without_cr, goes_on, pieces, script_from, script_of}
use Rattle.nuc_script.specs.Text.{joined, command_line, script_text}
use Rattle.nuc_script.specs.PrintedAgain.{PrintedAgain}
use Rattle.nuc_script.proofs.Meanings.{line_gives}
use Rattle.nuc_script.proofs.Behind.{ComeWith, IsCarried, script_behind}
use Rattle.nuc_script.proofs.JoinedWords.{IsWord, IsLineByte, words_back, line_bytes, no_control, no_lf, no_cr_in}
use Rattle.nuc_script.proofs.Bytes.{AreBytes, words_bytes, lines_bytes}
use Rattle.nuc_script.proofs.CommandsBack.{CommandAgain, command_again}
use Rattle.nuc_script.proofs.Lines.{no_cr}
use Rattle.nuc_script.proofs.Scripts.{line_step, end_step}

-- A LINE
abbrev Again : List Command → Command → Type 0
Again before c = CommandAgain (clients_of before) (is_begun before) c

line_given : (before : List Command) (line : List ℕ) (c : Command) → clients_of before ≤ 16 → AreBytes line → line_meaning before line ≡ Ok (Some c) → Again before c
line_given before line c few all is =
    let (short, gives) = line_gives before line c is in
    let bytes = subst (AllByRecursion AreBytes) gives.cut (words_bytes line all) in
    command_again (verb_of (unescaped gives.first)) (clients_of before) (is_begun before) gives.others c few bytes.1 gives.command

words_again : (before : List Command) (c : Command) (again : Again before c) → words_meaning before (again.first ∷ again.others) ≡ Ok (Some c)
unfolding words_meaning
words_again before c again = rw again.no_comment (ap (λ r. r >>= λ d. Ok (Some d)) again.again)

line_is : (before : List Command) (c : Command) (again : Again before c) → command_line c ≡ joined (again.first ∷ again.others)
line_is before c again = ap joined again.words

line_again : (before : List Command) (c : Command) → Again before c → length (command_line c) ≤ 4096 → line_meaning before (command_line c) ≡ Ok (Some c)
unfolding line_meaning
line_again before c again short =
    let line = line_is before c again in
    let all : AllByRecursion IsWord (again.first ∷ again.others) = (again.is_first, again.are_others) in
    let long : nat_lt 4096 (length (command_line c)) ≡ false = grind (arith, nat_tests) in
    let plain : list_any is_control (command_line c) ≡ false = ap (list_any is_control) line ∙ no_control (joined (again.first ∷ again.others)) (line_bytes (again.first ∷ again.others) all) in
    let words : words_of (command_line c) ≡ again.first ∷ again.others = ap words_of line ∙ words_back again.first again.others again.is_first again.are_others in
    ap (λ t. cond t (Err fault.Long) (cond (list_any is_control (command_line c)) (Err fault.Byte) (words_meaning before (words_of (command_line c))))) long
    ∙ ap (λ t. cond t (Err fault.Byte) (words_meaning before (words_of (command_line c)))) plain
    ∙ ap (words_meaning before) words ∙ words_again before c again

-- COMMANDS, EACH BEHIND THOSE BEFORE IT
few_more : (before : List Command) (c : Command) → clients_of before ≤ 16 → clients_in c ≤ 16 → clients_of (before ++ c ∷ []) ≤ 16
few_more [] c few is = is
few_more (d ∷ before) c few is = few

cr_bytes : (line : List ℕ) → AreBytes line → AreBytes (without_cr line)
cr_bytes [] all = tt
cr_bytes (b ∷ []) all = elim (b == 13) as (λ t. AreBytes (cond t [] (b ∷ []))) [ true ↦ tt | false ↦ all ]
cr_bytes (b ∷ next ∷ bytes) (small, all) = (small, cr_bytes (next ∷ bytes) all)

carried : IsCarried Again AreBytes (λ before. clients_of before ≤ 16)
carried = record { given = line_given; ready = λ before c few again. few_more before c few again.few; ended = cr_bytes }

-- AND AGAIN
numbered_again : (number : ℕ) (before : List Command) (c : Command) → number ≤ 1000000 → Again before c → length (command_line c) ≤ 4096
    → numbered_meaning number before (without_cr (command_line c)) ≡ Ok (Some c)
numbered_again number before c early again short =
    let test : nat_lt 1000000 number ≡ false = grind (arith, nat_tests) in
    let all : AllByRecursion IsWord (again.first ∷ again.others) = (again.is_first, again.are_others) in
    let bytes = subst (AllByRecursion IsLineByte) (sym (line_is before c again)) (line_bytes (again.first ∷ again.others) all) in
    let kept : without_cr (command_line c) ≡ command_line c = no_cr (command_line c) (λ front same. no_cr_in (command_line c) front bytes same) in
    ap (λ l. numbered_meaning number before l) kept ∙ ap (λ t. cond t (Err fault.Many) (line_meaning before (command_line c))) test ∙ line_again before c again short

script_again : (number : ℕ) (before cs : List Command) → ComeWith Again before cs → AllByRecursion (λ c. length (command_line c) ≤ 4096) cs
    → length cs + number ≤ 1000001 → script_from number before (pieces (script_text cs)) ≡ read.Commands (before ++ cs)
script_again number before [] again short count = end_step number before ∙ ap read.Commands (sym (append-nil before))
script_again number before (c ∷ cs) (again, later) (here, short) count =
    let all : AllByRecursion IsWord (again.first ∷ again.others) = (again.is_first, again.are_others) in
    let bytes = subst (AllByRecursion IsLineByte) (sym (line_is before c again)) (line_bytes (again.first ∷ again.others) all) in
    let text : script_text (c ∷ cs) ≡ command_line c ++ 10 ∷ script_text cs =
    flat_map-cons (λ d. command_line d ++ 10 ∷ []) c cs ∙ append_assoc (command_line c) (10 ∷ []) (script_text cs) in
    ap (λ l. script_from number before (pieces l)) text
    ∙ line_step number before (command_line c) (script_text cs) (no_lf (command_line c) bytes)
    ∙ ap (λ m. goes_on number before m (λ ds. script_from (number + 1) ds (pieces (script_text cs)))) (numbered_again number before c (omega (arith, count)) again here)
    ∙ script_again (number + 1) (before ++ c ∷ []) cs later short (omega (arith, count))
    ∙ ap read.Commands (append_assoc before (c ∷ []) cs)

pub printed_again : PrintedAgain
printed_again bytes commands all is short =
    let behind = script_behind Again AreBytes (λ before. clients_of before ≤ 16) carried 1 [] (pieces bytes) commands (omega arith) (omega arith) (lines_bytes bytes all) is in
    let few = subst (AllByRecursion (λ c. length (command_line c) ≤ 4096)) behind.whole short in
    ap (λ cs. script_of (script_text cs)) behind.whole ∙ script_again 1 [] behind.commands behind.come few behind.count ∙ ap read.Commands (sym behind.whole)
