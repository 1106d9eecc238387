-- How the answer for a script goes on, line by line.
use Rattle.std.proofs.Common.{◌≡◌, ◌≢◌, ℕ, suc, ◌+◌, ◌≤◌, ◌<◌, true, false, cond, ◌==◌, List, [], ◌∷◌, ◌++◌, length, Err, refl, sym, ap, ◌∙◌, arith, length-append}
use Rattle.std.specs.Prelude.{nat_lt}
use Rattle.std.specs.List.{onto_first}
use Rattle.std.proofs.lemmas.List.Elements.{All-head, All-tail}
use Rattle.std.proofs.lemmas.Bool.Decides.{nat_tests}
use Rattle.nuc_io.specs.Line.{IsOneLine}
use Rattle.nuc_script.specs.declared.fault.LineFault.TheVariants as fault
use Rattle.nuc_script.specs.declared.command.Command.{Command}
use Rattle.nuc_script.specs.declared.script_read.ScriptRead.TheVariants as read
use Rattle.nuc_script.specs.Lines.{numbered_meaning, line_meaning}
use Rattle.nuc_script.specs.Reading.{without_cr, goes_on, pieces, script_from}
use Rattle.nuc_script.specs.Steps.{too_long}
use Rattle.nuc_script.proofs.Cuts.{split_lacks, split_at}

-- a text has at least one piece
some_pieces : (bytes : List ℕ) → (first : List ℕ) × (others : List (List ℕ)) × (pieces bytes ≡ first ∷ others)
some_pieces [] = ([], [], refl)
some_pieces (b ∷ bytes) =
    let (first, others, same) = some_pieces bytes in
    elim (b == 10) as (λ t. (f : List ℕ) × (o : List (List ℕ)) × (cond t ([] ∷ pieces bytes) (onto_first b (pieces bytes)) ≡ f ∷ o)) [
      | true ↦ ([], pieces bytes, refl)
      | false ↦ (b ∷ first, others, ap (onto_first b) same)
    ]

-- a line and its LF
pub line_step : (number : ℕ) (before : List Command) (text more : List ℕ) → IsOneLine text
    → script_from number before (pieces (text ++ 10 ∷ more))
    ≡ goes_on number before (numbered_meaning number before (without_cr text)) (λ commands. script_from (number + 1) commands (pieces more))
unfolding script_from
line_step number before text more one_line =
    let (first, others, same) = some_pieces more in
    ap (script_from number before) (split_at 10 text more one_line ∙ ap (λ l. text ∷ l) same)
    ∙ sym (ap (λ l. goes_on number before (numbered_meaning number before (without_cr text)) (λ commands. script_from (number + 1) commands l)) same)

-- a last line without LF
pub last_step : (number : ℕ) (before : List Command) (text : List ℕ) → IsOneLine text → 0 < length text
    → script_from number before (pieces text) ≡ goes_on number before (numbered_meaning number before text) (λ commands. read.Commands commands)
unfolding script_from
last_step number before text one_line some =
    let test : (length text == 0) ≡ false = grind (arith, nat_tests) in
    ap (script_from number before) (split_lacks 10 text one_line) ∙ rw test refl

pub end_step : (number : ℕ) (before : List Command) → script_from number before (pieces []) ≡ read.Commands before
unfolding script_from
end_step number before = refl

-- LINES THAT ARE TOO LONG
long_meaning : (number : ℕ) (before : List Command) (line : List ℕ) → 4096 < length line → numbered_meaning number before line ≡ Err (too_long number)
unfolding line_meaning
long_meaning number before line long =
    let test : nat_lt 4096 (length line) ≡ true = grind (arith, nat_tests) in
    elim (nat_lt 1000000 number) as (λ t. cond t (Err fault.Many) (line_meaning before line) ≡ Err (cond t fault.Many fault.Long)) [ true ↦ refl | false ↦ rw test refl ]

without_cr_len : (line : List ℕ) → length line ≤ suc (length (without_cr line))
without_cr_len [] = omega arith
without_cr_len (b ∷ []) = elim (b == 13) as (λ t. 1 ≤ suc (length (cond t [] (b ∷ [])))) [ true ↦ omega arith | false ↦ omega arith ]
without_cr_len (b ∷ next ∷ bytes) = let rest = without_cr_len (next ∷ bytes) in omega (arith, rest)

-- bytes without LF stand in front of the first piece
front_piece : (text more first : List ℕ) (others : List (List ℕ)) → IsOneLine text → pieces more ≡ first ∷ others → pieces (text ++ more) ≡ (text ++ first) ∷ others
front_piece [] more first others one_line same = same
front_piece (b ∷ text) more first others one_line same =
    let other : b ≢ 10 = All-head (λ x. x ≢ 10) b text one_line in
    let test : (b == 10) ≡ false = grind (arith, nat_tests) in
    let rest = front_piece text more first others (All-tail (λ x. x ≢ 10) b text one_line) same in
    rw test (ap (onto_first b) rest)

long_first : (number : ℕ) (before : List Command) (line : List ℕ) (others : List (List ℕ)) → 4098 ≤ length line
    → script_from number before (line ∷ others) ≡ read.Fault number (too_long number)
unfolding script_from
long_first number before line [] long =
    let test : (length line == 0) ≡ false = grind (arith, nat_tests) in
    let meaning = long_meaning number before line (omega arith) in
    rw (test, meaning) refl
long_first number before line (next ∷ others) long =
    let meaning = long_meaning number before (without_cr line) (omega (arith, without_cr_len line)) in
    rw meaning refl

pub long_step : (number : ℕ) (before : List Command) (text more : List ℕ) → IsOneLine text → length text ≡ 4098
    → script_from number before (pieces (text ++ more)) ≡ read.Fault number (too_long number)
long_step number before text more one_line long =
    let (first, others, same) = some_pieces more in
    ap (script_from number before) (front_piece text more first others one_line same)
    ∙ long_first number before (text ++ first) others (omega (arith, long, length-append text first))
