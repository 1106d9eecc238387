-- The candidates of a free name are names, no two of them the same, so among enough of them one is free.
use Rattle.std.proofs.Common.{◌≡◌, ◌<◌, ◌≤◌, ◌+◌, ◌-◌, ◌^◌, ℕ, zero, suc, min, true, false, cond, Option, Some, None, List, [], ◌++◌, length, take, drop, reverse, get_or, codes, refl, ap, sym, subst, ◌∙◌, arith, nat_eq, ◌==◌, eqb-true}
use Rattle.std.specs.Prelude.{IsTrue}
use Rattle.std.specs.Fmt.{decimal}
use Rattle.std.specs.List.{All}
use Rattle.std.specs.Str.{IsUtf8, is_utf8, chars, IsCharBoundary}
use Rattle.std.specs.Str.Lossy.{utf8_valid_len, valid_len_up_to}
use Rattle.std.proofs.lemmas.Bool.Decides.{nat_tests}
use Rattle.std.proofs.lemmas.Fmt.{IsAscii-decimal, decimal_is_IsNumeral, length-decimal-le}
use Rattle.std.proofs.lemmas.List.{length-append, length-take, length-drop, take-take, take_min, get_or-reverse}
use Rattle.std.proofs.lemmas.List.Elements.{All-append, All-take, All-drop, All-from_get_or}
use Rattle.std.proofs.lemmas.List.Quantifiers.{position-Some}
use Rattle.std.proofs.lemmas.List.Sums.{AllPass-from_list_all}
use Rattle.std.proofs.lemmas.Str.{IsUtf8-nil, IsUtf8-append, IsUtf8-drop, IsUtf8-from_ascii, IsUtf8-from_is_utf8, is_utf8-from_IsUtf8, utf8_valid_len_le, utf8_valid_len-IsUtf8, IsCharBoundary-end, IsCharBoundary-before_ascii}
use Rattle.std.proofs.lemmas.Str.Parse.{digit_at}
use lib.Utf8.{encode}
use Rattle.nuc_base.specs.Candidates.{after_dot, extension_within, extension_len, extension, stem, label, cut_text, candidate}
use Rattle.nuc_base.specs.Names.{IsName, is_plain}

abbrev Plain : ℕ → Type 0
Plain b = IsTrue (is_plain b)

up_to_text : (bs : List ℕ) (n : ℕ) → is_utf8 (take (valid_len_up_to bs n) bs) ≡ true
up_to_text bs zero = is_utf8-from_IsUtf8 [] IsUtf8-nil
up_to_text bs (suc n) =
    let rest = up_to_text bs n in
    elim (is_utf8 (take (suc n) bs)) as (λ t. is_utf8 (take (suc n) bs) ≡ t → is_utf8 (take (cond t (suc n) (valid_len_up_to bs n)) bs) ≡ true) [
      | true ↦ λ e. e
      | false ↦ λ e. rest
    ] refl

front_text : (bs : List ℕ) → IsUtf8 (take (utf8_valid_len bs) bs)
unfolding utf8_valid_len
front_text bs = IsUtf8-from_is_utf8 _ (up_to_text bs (length bs))

-- a cut text is a text within the room
cut_len : (room : ℕ) (text : List ℕ) → utf8_valid_len (take room text) ≤ room
cut_len room text = omega (arith, utf8_valid_len_le (take room text), length-take room text)

cut_is_text : (room : ℕ) (text : List ℕ) → IsUtf8 (cut_text room text)
cut_is_text room text = subst IsUtf8 (take-take _ room text (cut_len room text)) (front_text (take room text))

cut_is_short : (room : ℕ) (text : List ℕ) → length (cut_text room text) ≤ room
cut_is_short room text = omega (arith, cut_len room text, length-take (utf8_valid_len (take room text)) text)

-- a text with a whole character at the end of the room is cut there
pub cut_whole : (room n : ℕ) (text : List ℕ) → n ≡ min room (length text) → IsUtf8 (take n text) → take n text ≡ cut_text room text
cut_whole room n text e whole =
    let front : take n text ≡ take room text = ap (λ k. take k text) e ∙ take_min room text in
    let len : utf8_valid_len (take n text) ≡ length (take n text) = utf8_valid_len-IsUtf8 _ whole in
    let n_is : n ≡ utf8_valid_len (take n text) = omega (arith, length-take n text) in
    ap (λ k. take k text) (n_is ∙ ap utf8_valid_len front)

within_short : (len : ℕ) (after : Option ℕ) → extension_within len after ≤ 17
within_short len None = omega arith
within_short len (Some after) = grind (arith, nat_tests)

within_inside : (len k : ℕ) → 0 < extension_within len (Some k) → k + 1 < len
within_inside len k some = grind (arith, nat_tests)

within_dot : (len k : ℕ) → 0 < extension_within len (Some k) → extension_within len (Some k) ≡ k + 1
within_dot len k some = grind (arith, nat_tests)

-- a text may be cut before its last `.`, and at its end
boundary_at : (name : List ℕ) (k n : ℕ) → after_dot name ≡ Some k → (0 < n → k + 1 < length name) → (0 < n → n ≡ k + 1)
    → IsUtf8 name → IsCharBoundary name (length name - n)
boundary_at name k zero dot inside is text =
    let end : length name ≡ length name - zero = omega arith in
    subst (IsCharBoundary name) end (IsCharBoundary-end name)
boundary_at name k (suc n) dot inside is text =
    let within : k + 1 < length name = inside (omega arith) in
    let len : suc n ≡ k + 1 = is (omega arith) in
    let byte : get_or (reverse name) k 0 ≡ 46 = eqb-true _ 46 (position-Some (λ b. b == 46) (reverse name) k 0 dot).1 in
    let place : get_or (reverse name) k 0 ≡ get_or name (length name - 1 - k) 0 = get_or-reverse name k 0 (omega arith) in
    let same : length name - 1 - k ≡ length name - suc n = omega arith in
    let at_same : get_or name (length name - 1 - k) 0 ≡ get_or name (length name - suc n) 0 = ap (λ i. get_or name i 0) same in
    IsCharBoundary-before_ascii name (length name - suc n) (omega arith) (omega arith)

boundary_of : (name : List ℕ) (after : Option ℕ) → after_dot name ≡ after → IsUtf8 name
    → IsCharBoundary name (length name - extension_within (length name) after)
boundary_of name None dot text =
    let end : length name ≡ length name - 0 = omega arith in
    subst (IsCharBoundary name) end (IsCharBoundary-end name)
boundary_of name (Some k) dot text =
    boundary_at name k (extension_within (length name) (Some k)) dot (within_inside (length name) k) (within_dot (length name) k) text

extension_is_text : (name : List ℕ) → IsUtf8 name → IsUtf8 (extension name)
extension_is_text name text = IsUtf8-drop name _ text (boundary_of name (after_dot name) refl text)

extension_is_short : (name : List ℕ) → length (extension name) ≤ 17
extension_is_short name =
    omega (arith, within_short (length name) (after_dot name), length-drop (length name - extension_len name) name)

by_label : (P : List ℕ → Type 0) (n : ℕ) → P (codes " (conflicted copy)")
    → P (codes " (conflicted copy " ++ (decimal n ++ codes ")")) → P (label n)
by_label P n one more =
    elim (nat_eq n 1) as (λ t. P (cond t (codes " (conflicted copy)") (codes " (conflicted copy " ++ (decimal n ++ codes ")")))) [
      | true ↦ one
      | false ↦ more
    ]

written : (bs : List ℕ) → is_utf8 bs ≡ true → IsUtf8 bs
written bs e = IsUtf8-from_is_utf8 bs e

label_is_text : (n : ℕ) → n < 2 ^ 64 → IsUtf8 (label n)
unfolding is_utf8 chars encode
label_is_text n small = by_label IsUtf8 n (written (codes " (conflicted copy)") refl)
    (IsUtf8-append (codes " (conflicted copy ") _ (written (codes " (conflicted copy ") refl)
    (IsUtf8-append (decimal n) (codes ")") (IsUtf8-from_ascii _ (IsAscii-decimal n small)) (written (codes ")") refl)))

pub digits_all : (P : ℕ → Type 0) → ((b : ℕ) → 48 ≤ b → b ≤ 57 → P b) → (n : ℕ) → n < 2 ^ 64 → All P (decimal n)
digits_all P each n small =
    let digits = (decimal_is_IsNumeral n small).0.1 in
    All-from_get_or P (decimal n) 0 (λ i lt. let range = digit_at (decimal n) i digits lt in each _ range.0 range.1)

plain_digit : (b : ℕ) → 48 ≤ b → b ≤ 57 → Plain b
plain_digit b low high = grind (arith, nat_tests)

label_is_plain : (n : ℕ) → n < 2 ^ 64 → All Plain (label n)
label_is_plain n small = by_label (λ l. All Plain l) n (AllPass-from_list_all is_plain (codes " (conflicted copy)") refl)
    (All-append Plain (codes " (conflicted copy ") _ (AllPass-from_list_all is_plain (codes " (conflicted copy ") refl)
    (All-append Plain (decimal n) (codes ")") (digits_all _ plain_digit n small) (AllPass-from_list_all is_plain (codes ")") refl)))

longer_len : (n : ℕ) → length (codes " (conflicted copy " ++ (decimal n ++ codes ")")) ≡ 18 + (length (decimal n) + 1)
longer_len n =
    length-append (codes " (conflicted copy ") (decimal n ++ codes ")") ∙ ap (λ k. 18 + k) (length-append (decimal n) (codes ")"))

pub longer_is_short : (n : ℕ) → n < 2 ^ 64 → length (codes " (conflicted copy " ++ (decimal n ++ codes ")")) ≤ 39
longer_is_short n small =
    let digits : length (decimal n) ≤ 20 = length-decimal-le 20 n (omega arith) (omega arith) small in
    omega (arith, longer_len n)

label_is_short : (n : ℕ) → n < 2 ^ 64 → length (label n) ≤ 39
label_is_short n small = by_label (λ l. length l ≤ 39) n (omega arith) (longer_is_short n small)

label_is_long : (n : ℕ) → 2 < length (label n)
label_is_long n = by_label (λ l. 2 < length l) n (omega arith) (omega (arith, longer_len n))

-- each candidate of a name is a name
pub candidate-is_name : (name : List ℕ) (n : ℕ) → IsName name → n < 2 ^ 64 → IsName (candidate name n)
unfolding candidate
candidate-is_name name n named small =
    let rest = label n ++ extension name in
    let room = 255 - length rest in
    let front = cut_text room (stem name) in
    let label_long = label_is_long n in
    let label_short = label_is_short n small in
    let short = extension_is_short name in
    let fits = cut_is_short room (stem name) in
    let len_rest : length rest ≡ length (label n) + length (extension name) = length-append (label n) (extension name) in
    let len : length (front ++ rest) ≡ length front + length rest = length-append front rest in
    record {
      some = omega arith;
      short = omega arith;
      text = IsUtf8-append front rest (cut_is_text room (stem name))
          (IsUtf8-append (label n) (extension name) (label_is_text n small) (extension_is_text name named.text));
      plain = All-append Plain front rest (All-take Plain _ _ (All-take Plain _ _ named.plain))
          (All-append Plain (label n) (extension name) (label_is_plain n small) (All-drop Plain _ _ named.plain));
      not_dot = λ e. let one : length (front ++ rest) ≡ 1 = ap length e in omega arith;
      not_dots = λ e. let two : length (front ++ rest) ≡ 2 = ap length e in omega arith;
    }

-- the parts, as the code has them, make up the candidate
pub candidate_is : (name : List ℕ) (n len : ℕ) (front whole middle back : List ℕ) → front ≡ cut_text (255 - (length middle + length back)) whole
    → whole ≡ take (length name - len) name → back ≡ drop (length name - len) name → len ≡ extension_len name → middle ≡ label n
    → front ++ (middle ++ back) ≡ candidate name n
unfolding candidate
candidate_is name n len front whole middle back f w b l m =
    let from : length name - len ≡ length name - extension_len name = ap (λ k. length name - k) l in
    let rest : middle ++ back ≡ label n ++ extension name =
    ap (λ x. x ++ back) m ∙ ap (λ x. label n ++ x) (b ∙ ap (λ k. drop k name) from) in
    let room : length middle + length back ≡ length (label n ++ extension name) = sym (length-append middle back) ∙ ap length rest in
    let cut : front ≡ cut_text (255 - length (label n ++ extension name)) (stem name) =
    f ∙ ap (λ k. cut_text (255 - k) whole) room ∙ ap (cut_text (255 - length (label n ++ extension name))) (w ∙ ap (λ k. take k name) from) in
    ap (λ x. x ++ (middle ++ back)) cut ∙ ap (λ x. cut_text (255 - length (label n ++ extension name)) (stem name) ++ x) rest
