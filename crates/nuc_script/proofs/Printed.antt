-- Words as they are printed: their bytes, and what they are with escapes undone.
use Rattle.std.proofs.Common.{◌≡◌, ◌≢◌, ℕ, ◌+◌, ◌-◌, ◌*◌, ◌/◌, ◌%◌, ◌^◌, ◌≤◌, ◌<◌, Bool, true, false, cond, ◌==◌, ◌&&◌, not, List, [], ◌∷◌, ◌++◌, length, Some, refl, sym, ap, subst, ◌∙◌, arith, length-append}
use Rattle.std.specs.Prelude.{nat_lt, nat_le, decimal}
use Rattle.std.specs.List.{AllByRecursion}
use Rattle.std.proofs.lemmas.Bool.Decides.{nat_tests}
use Rattle.std.proofs.lemmas.List.Concat.{flat_map-cons}
use Rattle.std.proofs.lemmas.Fmt.{decimal_by_steps}
use Rattle.nuc_script.specs.Escapes.{hex_value, byte_of, undone, unescaped}
use Rattle.nuc_script.specs.Numbers.{number_behind}
use Rattle.nuc_script.specs.Text.{is_plain, hex_digit, escape_text, escaped}

-- a byte that is printed: `!` to `~`
abbrev pub IsGraphic : ℕ → Type 0
IsGraphic b = (33 ≤ b) × (b ≤ 126)

abbrev pub IsByte : ℕ → Type 0
IsByte b = b < 256

pub all_append : (P : ℕ → Type 0) (xs ys : List ℕ) → AllByRecursion P xs → AllByRecursion P ys → AllByRecursion P (xs ++ ys)
all_append P [] ys all more = more
all_append P (x ∷ xs) ys (here, later) more = (here, all_append P xs ys later more)

-- A BYTE AND ITS ESCAPE
hex_low : (v : ℕ) → nat_lt v 10 ≡ true → hex_value (48 + v) ≡ Some v
hex_low v e =
    let small : v < 10 = grind (arith, nat_tests) in
    let a : nat_lt (48 + v) 48 ≡ false = grind (arith, nat_tests) in
    let b : nat_lt (48 + v) 58 ≡ true = grind (arith, nat_tests) in
    let back : (48 + v) - 48 ≡ v = omega arith in
    rw (a, b) (ap Some back)

hex_high : (v : ℕ) → nat_lt v 10 ≡ false → v < 16 → hex_value (55 + v) ≡ Some v
hex_high v e small =
    let least : 10 ≤ v = grind (arith, nat_tests) in
    let a : nat_lt (55 + v) 48 ≡ false = grind (arith, nat_tests) in
    let b : nat_lt (55 + v) 58 ≡ false = grind (arith, nat_tests) in
    let c : nat_lt (55 + v) 65 ≡ false = grind (arith, nat_tests) in
    let d : nat_lt (55 + v) 71 ≡ true = grind (arith, nat_tests) in
    let back : (55 + v) - 55 ≡ v = omega arith in
    rw (a, b, c, d) (ap Some back)

hex_back : (v : ℕ) → v < 16 → hex_value (hex_digit v) ≡ Some v
hex_back v small =
    elim (nat_lt v 10) as (λ t. nat_lt v 10 ≡ t → hex_value (cond t (48 + v) (55 + v)) ≡ Some v) [
      | true ↦ λ e. hex_low v e
      | false ↦ λ e. hex_high v e small
    ] refl

pub plain_first : (b : ℕ) (rest : List ℕ) → b ≢ 37 → unescaped (b ∷ rest) ≡ b ∷ unescaped rest
plain_first b [] other = refl
plain_first b (c ∷ []) other = refl
plain_first b (c ∷ d ∷ bs) other = let test : (b == 37) ≡ false = grind (arith, nat_tests) in rw test refl

-- the two digits of a byte give it again
pub digits_back : (b : ℕ) → b < 256 → byte_of (hex_value (hex_digit (b / 16))) (hex_value (hex_digit (b % 16))) ≡ Some b
digits_back b small =
    let high = hex_back (b / 16) (omega arith) in
    let low = hex_back (b % 16) (omega arith) in
    let whole : b / 16 * 16 + b % 16 ≡ b = omega arith in
    rw (high, low) (ap Some whole)

undone_first : (b : ℕ) (rest : List ℕ) → b < 256 → unescaped (37 ∷ hex_digit (b / 16) ∷ hex_digit (b % 16) ∷ rest) ≡ b ∷ unescaped rest
undone_first b rest small = ap (λ o. undone o (unescaped rest) (37 ∷ unescaped (hex_digit (b / 16) ∷ hex_digit (b % 16) ∷ rest))) (digits_back b small)

plain_both : (a b c : Bool) → (a && b && c) ≡ true → (a ≡ true) × (b ≡ true) × (c ≡ true)
plain_both true true true e = (refl, refl, refl)
plain_both true true false e = absurd cc
plain_both true false c e = absurd cc
plain_both false b c e = absurd cc

plain_other : (b : ℕ) → is_plain b ≡ true → b ≢ 37
plain_other b e same =
    let (low, high, other) = plain_both (nat_le 33 b) (nat_le b 126) (not (b == 37)) e in
    let test : (b == 37) ≡ true = grind (arith, nat_tests) in
    let never : false ≡ true = sym (ap not test) ∙ other in
    cc

plain_graphic : (b : ℕ) → is_plain b ≡ true → IsGraphic b
plain_graphic b e =
    let (low, high, other) = plain_both (nat_le 33 b) (nat_le b 126) (not (b == 37)) e in
    (grind (arith, nat_tests), grind (arith, nat_tests))

first_back : (b : ℕ) (rest : List ℕ) → b < 256 → unescaped (escape_text b ++ rest) ≡ b ∷ unescaped rest
first_back b rest small =
    elim (is_plain b) as (λ t. is_plain b ≡ t → unescaped (cond t (b ∷ []) (37 ∷ hex_digit (b / 16) ∷ hex_digit (b % 16) ∷ []) ++ rest) ≡ b ∷ unescaped rest) [
      | true ↦ λ e. plain_first b rest (plain_other b e)
      | false ↦ λ e. undone_first b rest small
    ] refl

pub unescaped_back : (bytes : List ℕ) → AllByRecursion IsByte bytes → unescaped (escaped bytes) ≡ bytes
unescaped_back [] all = refl
unescaped_back (b ∷ bytes) (small, all) =
    ap unescaped (flat_map-cons escape_text b bytes) ∙ first_back b (escaped bytes) small ∙ ap (λ l. b ∷ l) (unescaped_back bytes all)

-- ITS BYTES
pub digit_graphic : (v : ℕ) → v < 16 → IsGraphic (hex_digit v)
digit_graphic v small =
    elim (nat_lt v 10) as (λ t. IsGraphic (cond t (48 + v) (55 + v))) [ true ↦ (omega arith, omega arith) | false ↦ (omega arith, omega arith) ]

first_graphic : (b : ℕ) → b < 256 → AllByRecursion IsGraphic (escape_text b)
first_graphic b small =
    elim (is_plain b) as (λ t. is_plain b ≡ t → AllByRecursion IsGraphic (cond t (b ∷ []) (37 ∷ hex_digit (b / 16) ∷ hex_digit (b % 16) ∷ []))) [
      | true ↦ λ e. (plain_graphic b e, tt)
      | false ↦ λ e. ((omega arith, omega arith), (digit_graphic (b / 16) (omega arith), (digit_graphic (b % 16) (omega arith), tt)))
    ] refl

pub escaped_graphic : (bytes : List ℕ) → AllByRecursion IsByte bytes → AllByRecursion IsGraphic (escaped bytes)
escaped_graphic [] all = tt
escaped_graphic (b ∷ bytes) (small, all) =
    subst (AllByRecursion IsGraphic) (sym (flat_map-cons escape_text b bytes)) (all_append IsGraphic (escape_text b) (escaped bytes) (first_graphic b small) (escaped_graphic bytes all))

-- NUMBERS
abbrev pub IsDigit : ℕ → Type 0
IsDigit b = (48 ≤ b) × (b < 58)

pub record IsNumber (n : ℕ) (word : List ℕ) : Type 0 where
  pub digits : AllByRecursion IsDigit word
  pub some : 0 < length word
  pub value : number_behind 0 word ≡ Some n

digit_step : (n b : ℕ) (rest : List ℕ) → IsDigit b → number_behind n (b ∷ rest) ≡ number_behind (n * 10 + (b - 48)) rest
digit_step n b rest (low, high) =
    let first : nat_lt b 48 ≡ false = grind (arith, nat_tests) in
    let second : nat_lt b 58 ≡ true = grind (arith, nat_tests) in
    rw (first, second) refl

some_is : (m k : ℕ) → Some m ≡ Some k → m ≡ k
some_is m k e = cc

number_push : (m k b : ℕ) (word : List ℕ) → AllByRecursion IsDigit word → IsDigit b → number_behind m word ≡ Some k
    → number_behind m (word ++ b ∷ []) ≡ Some (k * 10 + (b - 48))
number_push m k b [] all digit value =
    let same : m ≡ k = some_is m k value in
    digit_step m b [] digit ∙ ap (λ n. Some (n * 10 + (b - 48))) same
number_push m k b (d ∷ word) (here, later) digit value =
    digit_step m d (word ++ b ∷ []) here ∙ number_push (m * 10 + (d - 48)) k b word later digit (sym (digit_step m d word here) ∙ value)

one_digit : (n : ℕ) → n < 10 → IsNumber n ((48 + n) ∷ [])
one_digit n small =
    let back : 0 * 10 + ((48 + n) - 48) ≡ n = omega arith in
    record { digits = ((omega arith, omega arith), tt); some = omega arith; value = digit_step 0 (48 + n) [] (omega arith, omega arith) ∙ ap Some back }

digits_push : (word : List ℕ) (b : ℕ) → AllByRecursion IsDigit word → IsDigit b → AllByRecursion IsDigit (word ++ b ∷ [])
digits_push word b all digit = all_append IsDigit word (b ∷ []) all (digit, tt)

more_digits : (n : ℕ) (word : List ℕ) → 10 ≤ n → IsNumber (n / 10) word → IsNumber n (word ++ (48 + n % 10) ∷ [])
more_digits n word above so_far =
    let digit : IsDigit (48 + n % 10) = (omega arith, omega arith) in
    let back : n / 10 * 10 + ((48 + n % 10) - 48) ≡ n = omega arith in
    record {
      digits = digits_push word (48 + n % 10) so_far.digits digit;
      some = omega (arith, length-append word ((48 + n % 10) ∷ []));
      value = number_push 0 (n / 10) (48 + n % 10) word so_far.digits digit so_far.value ∙ ap Some back;
    }

pub decimal_number : (n : ℕ) → n < 2 ^ 64 → IsNumber n (decimal n)
decimal_number n small = decimal_by_steps IsNumber one_digit more_digits n small
