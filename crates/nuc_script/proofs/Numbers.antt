-- Digits that come behind make no number smaller.
use Rattle.std.proofs.Common.{◌≡◌, ℕ, ◌+◌, ◌-◌, ◌*◌, ◌≤◌, ◌<◌, true, false, cond, List, [], ◌∷◌, length, drop, get_or, None, refl, sym, ap, ◌∙◌, arith}
use Rattle.std.specs.Prelude.{nat_lt}
use Rattle.std.proofs.lemmas.List.{drop_more}
use Rattle.std.proofs.lemmas.Bool.Decides.{nat_tests}
use Rattle.nuc_script.specs.Numbers.{number_behind, number_of, within}

pub too_great : (least most n : ℕ) (bytes : List ℕ) → most < n → within least most (number_behind n bytes) ≡ None
too_great least most n [] above = grind (arith, nat_tests)
too_great least most n (b ∷ bytes) above =
    let behind = too_great least most (n * 10 + (b - 48)) bytes (omega arith) in
    elim (nat_lt b 48) as (λ t. within least most (cond t None (cond (nat_lt b 58) (number_behind (n * 10 + (b - 48)) bytes) None)) ≡ None) [
      | true ↦ refl
      | false ↦ elim (nat_lt b 58) as (λ t. within least most (cond t (number_behind (n * 10 + (b - 48)) bytes) None) ≡ None) [ true ↦ behind | false ↦ refl ]
    ]

digit_taken : (n b : ℕ) (bytes : List ℕ) → 48 ≤ b → b < 58 → number_behind n (b ∷ bytes) ≡ number_behind (n * 10 + (b - 48)) bytes
digit_taken n b bytes low high =
    let first : nat_lt b 48 ≡ false = grind (arith, nat_tests) in
    let second : nat_lt b 58 ≡ true = grind (arith, nat_tests) in
    rw (first, second) refl

pub number_some : (word : List ℕ) → 0 < length word → number_of word ≡ number_behind 0 word
number_some [] some = absurd (omega arith)
number_some (b ∷ word) some = refl

pub passes : (least most n i b : ℕ) (word : List ℕ) → i < length word → get_or word i 0 ≡ b → 48 ≤ b → b < 58
    → number_behind n (drop i word) ≡ number_behind 0 word → most < n * 10 + (b - 48) → within least most (number_of word) ≡ None
passes least most n i b word lt here low high so_far above =
    let cut : drop i word ≡ b ∷ drop (i + 1) word = drop_more word i 0 lt ∙ ap (λ x. x ∷ drop (i + 1) word) here in
    let taken = sym so_far ∙ ap (number_behind n) cut ∙ digit_taken n b (drop (i + 1) word) low high in
    ap (within least most) (number_some word (omega arith) ∙ taken) ∙ too_great least most (n * 10 + (b - 48)) (drop (i + 1) word) above
