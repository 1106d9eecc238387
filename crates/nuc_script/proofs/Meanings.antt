-- What a line has that gives a command.
use Rattle.std.proofs.Common.{◌≡◌, ℕ, ◌≤◌, true, false, cond, List, [], ◌∷◌, length, Option, Some, None, Ok, Err, refl, ap, ◌∙◌, arith}
use Rattle.std.specs.Prelude.{nat_lt}
use Rattle.std.specs.List.{list_any}
use Rattle.std.proofs.lemmas.Bool.Decides.{nat_tests}
use Rattle.nuc_script.specs.declared.fault.LineFault.TheVariants as fault
use Rattle.nuc_script.specs.declared.command.Command.{Command}
use Rattle.nuc_script.specs.Meaning.{◌>>=◌}
use Rattle.nuc_script.specs.Escapes.{unescaped}
use Rattle.nuc_script.specs.Words.{words_of, is_comment}
use Rattle.nuc_script.specs.Table.{verb_of}
use Rattle.nuc_script.specs.Commands.{clients_of, command_of}
use Rattle.nuc_script.specs.Lines.{is_control, is_begun, words_meaning, line_meaning, numbered_meaning}
use Rattle.nuc_script.proofs.EditsBack.{bind_ok, ok_is}

-- these words give the command behind the commands before
pub record GivesCommand (before : List Command) (words : List (List ℕ)) (c : Command) : Type 0 where
  pub first : List ℕ
  pub others : List (List ℕ)
  pub cut : words ≡ first ∷ others
  pub command : command_of (verb_of (unescaped first)) (clients_of before) (is_begun before) others ≡ Ok c

some_command : (x y : Command) → Some x ≡ Some y → x ≡ y
some_command x y e = cc

words_give : (before : List Command) (words : List (List ℕ)) (c : Command) → words_meaning before words ≡ Ok (Some c) → GivesCommand before words c
unfolding words_meaning
words_give before [] c is = absurd cc
words_give before (first ∷ others) c is =
    let command = command_of (verb_of (unescaped first)) (clients_of before) (is_begun before) others in
    elim (is_comment first) as (λ t. cond t (Ok None) (command >>= λ d. Ok (Some d)) ≡ Ok (Some c) → GivesCommand before (first ∷ others) c) [
      | true ↦ λ e. absurd cc
      | false ↦ λ e.
          let a = bind_ok command (λ d. Ok (Some d)) (Some c) e in
          let same = some_command a.0 c (ok_is (Some a.0) (Some c) a.2) in
          record { first = first; others = others; cut = refl; command = a.1 ∙ ap (λ d. Ok d) same }
    ] is

pub line_gives : (before : List Command) (line : List ℕ) (c : Command) → line_meaning before line ≡ Ok (Some c)
    → (length line ≤ 4096) × GivesCommand before (words_of line) c
unfolding line_meaning
line_gives before line c is =
    let meaning = cond (list_any is_control line) (Err fault.Byte) (words_meaning before (words_of line)) in
    elim (nat_lt 4096 (length line)) as (λ t. nat_lt 4096 (length line) ≡ t → cond t (Err fault.Long) meaning ≡ Ok (Some c) → (length line ≤ 4096) × GivesCommand before (words_of line) c) [
      | true ↦ λ long e. absurd cc
      | false ↦ λ long e.
          let short : length line ≤ 4096 = grind (arith, nat_tests) in
          elim (list_any is_control line) as (λ t. cond t (Err fault.Byte) (words_meaning before (words_of line)) ≡ Ok (Some c) → (length line ≤ 4096) × GivesCommand before (words_of line) c) [
            | true ↦ λ g. absurd cc
            | false ↦ λ g. (short, words_give before (words_of line) c g)
          ] e
    ] refl is

pub meaning_is : (number : ℕ) (before : List Command) (line : List ℕ) (found : Option Command) → numbered_meaning number before line ≡ Ok found
    → line_meaning before line ≡ Ok found
meaning_is number before line found e =
    elim (nat_lt 1000000 number) as (λ t. cond t (Err fault.Many) (line_meaning before line) ≡ Ok found → line_meaning before line ≡ Ok found) [
      | true ↦ λ h. absurd cc
      | false ↦ λ h. h
    ] e
