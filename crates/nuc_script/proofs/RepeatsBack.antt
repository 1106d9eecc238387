-- A content `*N:HH` that is printed is read again.
use Rattle.std.proofs.Common.{◌≡◌, ◌≢◌, ℕ, ◌+◌, ◌/◌, ◌%◌, ◌≤◌, ◌<◌, true, false, cond, ◌==◌, List, [], ◌∷◌, ◌++◌, Some, refl, ap, ◌∙◌, arith}
use Rattle.std.specs.Prelude.{nat_lt, decimal}
use Rattle.std.specs.List.{AllByRecursion, before_first, after_first}
use Rattle.std.proofs.lemmas.List.Elements.{All-nil, All-cons}
use Rattle.nuc_hash.specs.declared.filling.Filling.TheVariants.{Repeat}
use Rattle.nuc_script.specs.Escapes.{unescaped}
use Rattle.nuc_script.specs.Numbers.{number_of, within}
use Rattle.nuc_script.specs.Contents.{hex_byte, filled, repeated}
use Rattle.nuc_script.specs.Text.{hex_digit}
use Rattle.nuc_script.proofs.Cuts.{Lacks, before_at, after_at}
use Rattle.nuc_script.proofs.Numbers.{number_some}
use Rattle.nuc_script.proofs.Printed.{IsGraphic, IsDigit, all_append, plain_first, digits_back, digit_graphic, decimal_number}
use Rattle.nuc_script.proofs.Bytes.{within_back}

-- DIGITS
digits_lack : (word : List ℕ) → AllByRecursion IsDigit word → Lacks 58 word
digits_lack [] all = All-nil (λ x. x ≢ 58)
digits_lack (b ∷ word) ((low, high), all) = All-cons (λ x. x ≢ 58) b word (λ same. omega (arith, high, same)) (digits_lack word all)

pub digits_graphic : (word : List ℕ) → AllByRecursion IsDigit word → AllByRecursion IsGraphic word
digits_graphic [] all = tt
digits_graphic (b ∷ word) ((low, high), all) = ((omega (arith, low), omega (arith, high)), digits_graphic word all)

-- NO ESCAPES
abbrev NoEscape : ℕ → Type 0
NoEscape b = b ≢ 37

unescaped_plain : (word : List ℕ) → AllByRecursion NoEscape word → unescaped word ≡ word
unescaped_plain [] all = refl
unescaped_plain (b ∷ word) (other, all) = plain_first b word other ∙ ap (λ l. b ∷ l) (unescaped_plain word all)

digits_plain : (word : List ℕ) → AllByRecursion IsDigit word → AllByRecursion NoEscape word
digits_plain [] all = tt
digits_plain (b ∷ word) ((low, high), all) = (λ same. omega (arith, low, same), digits_plain word all)

pub unescaped_digits : (word : List ℕ) → AllByRecursion IsDigit word → unescaped word ≡ word
unescaped_digits word all = unescaped_plain word (digits_plain word all)

hex_plain : (v : ℕ) → v < 16 → NoEscape (hex_digit v)
hex_plain v small =
    elim (nat_lt v 10) as (λ t. NoEscape (cond t (48 + v) (55 + v))) [ true ↦ λ same. omega (arith, same) | false ↦ λ same. omega (arith, same) ]

-- THE WORD
abbrev pub digits : ℕ → List ℕ
digits byte = hex_digit (byte / 16) ∷ hex_digit (byte % 16) ∷ []

pub unescaped_repeat : (count byte : ℕ) → byte < 256 → count ≤ 67108864
    → unescaped (42 ∷ decimal count ++ 58 ∷ digits byte) ≡ 42 ∷ decimal count ++ 58 ∷ digits byte
unescaped_repeat count byte small few =
    let number = decimal_number count (omega (arith, few)) in
    let behind : AllByRecursion NoEscape (58 ∷ digits byte) = (λ same. omega (arith, same), (hex_plain (byte / 16) (omega arith), (hex_plain (byte % 16) (omega arith), tt))) in
    unescaped_plain (42 ∷ decimal count ++ 58 ∷ digits byte)
    (λ same. omega (arith, same), all_append NoEscape (decimal count) (58 ∷ digits byte) (digits_plain (decimal count) number.digits) behind)

pub repeated_back : (count byte : ℕ) → byte < 256 → count ≤ 67108864 → repeated (decimal count ++ 58 ∷ digits byte) ≡ Some (Repeat count byte)
repeated_back count byte small few =
    let number = decimal_number count (omega (arith, few)) in
    let lacks = digits_lack (decimal count) number.digits in
    let text = decimal count ++ 58 ∷ digits byte in
    let read : number_of (decimal count) ≡ Some count = number_some (decimal count) number.some ∙ number.value in
    ap (λ l. filled (within 0 67108864 (number_of l)) (hex_byte (after_first (λ b. b == 58) text))) (before_at 58 (decimal count) (digits byte) lacks)
    ∙ ap (λ l. filled (within 0 67108864 (number_of (decimal count))) (hex_byte l)) (after_at 58 (decimal count) (digits byte) lacks)
    ∙ ap (λ o. filled (within 0 67108864 o) (hex_byte (digits byte))) read
    ∙ ap (λ o. filled o (hex_byte (digits byte))) (within_back 0 67108864 count (omega arith) few)
    ∙ ap (filled (Some count)) (digits_back byte small)

pub repeat_graphic : (count byte : ℕ) → byte < 256 → count ≤ 67108864 → AllByRecursion IsGraphic (42 ∷ decimal count ++ 58 ∷ digits byte)
repeat_graphic count byte small few =
    let number = decimal_number count (omega (arith, few)) in
    let behind : AllByRecursion IsGraphic (58 ∷ digits byte) = ((omega arith, omega arith), (digit_graphic (byte / 16) (omega arith), (digit_graphic (byte % 16) (omega arith), tt))) in
    ((omega arith, omega arith), all_append IsGraphic (decimal count) (58 ∷ digits byte) (digits_graphic (decimal count) number.digits) behind)
