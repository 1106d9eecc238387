-- What is read keeps to its bounds.
use Rattle.std.proofs.Common.{◌≡◌, ◌≢◌, ℕ, zero, suc, ◌≤◌, ◌<◌, Bool, true, false, cond, ◌==◌, ◌&&◌, not, List, [], ◌∷◌, length, replicate, Option, Some, None, Ok, refl, sym, ap, subst, ◌∙◌, arith}
use Rattle.std.specs.Prelude.{nat_lt}
use Rattle.std.specs.List.{AllByRecursion, slice_split, onto_first, take_while, before_first, after_first}
use Rattle.std.specs.Str.{bytes_eq}
use Rattle.std.specs.Str.Lossy.{utf8_valid_len}
use Rattle.std.proofs.lemmas.Str.{utf8_valid_len_le}
use Rattle.std.proofs.lemmas.Slice.Eq.{bytes_eq-Decides}
use Rattle.std.proofs.lemmas.Bool.Decides.{nat_tests}
use Rattle.nuc_base.specs.Names.{IsName, is_plain, good_len}
use Rattle.nuc_base.specs.declared.path.Path.{Path}
use Rattle.nuc_base.proofs.Names.{text_of_len, plain_of_len, take_plain}
use Rattle.nuc_hash.specs.declared.filling.Filling.{Filling}
use Rattle.nuc_hash.specs.declared.filling.Filling.TheVariants.{Given, Repeat}
use Rattle.nuc_script.specs.declared.fault.LineFault.TheVariants as fault
use Rattle.nuc_script.specs.Escapes.{escape, undone, unescaped}
use Rattle.nuc_script.specs.Numbers.{number_of, within}
use Rattle.nuc_script.specs.Paths.{is_name, are_names, names_in, path_with, path_of, pieces}
use Rattle.nuc_script.specs.Contents.{hex_byte, filled, repeated, content_of}
use Rattle.nuc_script.specs.Words.{words_of}
use Rattle.nuc_script.specs.Arguments.{path_word, content_word}
use Rattle.nuc_script.specs.Fitting.{FitsPath, FitsContent}
use Rattle.nuc_script.proofs.Bytes.{path_named, split_some, filter_all, within_is}
use Rattle.nuc_script.proofs.ArgumentsBack.{found}

-- NAMES
both_true : (a b : Bool) → (a && b) ≡ true → (a ≡ true) × (b ≡ true)
both_true true b e = (refl, e)
both_true false b e = absurd cc

not_true : (a : Bool) → not a ≡ true → a ≡ false
not_true true e = absurd cc
not_true false e = refl

differs : (bytes other : List ℕ) → bytes_eq bytes other ≡ false → bytes ≢ other
differs bytes other test same = let e = (bytes_eq-Decides bytes other).1 same in let never : false ≡ true = sym test ∙ e in cc

pub name_is : (bytes : List ℕ) → is_name bytes ≡ true → IsName bytes
name_is bytes e =
    let (some, rest) = both_true (not (length bytes == 0)) _ e in
    let (short, more) = both_true (nat_lt (length bytes) 256) _ rest in
    let (good, dots) = both_true (good_len bytes == length bytes) _ more in
    let (dot, two) = both_true (not (bytes_eq bytes (46 ∷ []))) _ dots in
    let nonempty = not_true (length bytes == 0) some in
    let above : 0 < length bytes = grind (arith, nat_tests) in
    let below : length bytes ≤ 255 = grind (arith, nat_tests) in
    let whole_len : good_len bytes ≡ length bytes = grind (arith, nat_tests) in
    let front = utf8_valid_len_le (take_while is_plain bytes) in
    let plain = plain_of_len bytes (omega (arith, whole_len, front)) in
    let whole : utf8_valid_len (take_while is_plain bytes) ≡ utf8_valid_len bytes = ap utf8_valid_len (take_plain bytes plain) in
    record {
      some = above;
      short = below;
      text = text_of_len bytes (sym whole ∙ whole_len);
      plain = plain;
      not_dot = differs bytes (46 ∷ []) (not_true (bytes_eq bytes (46 ∷ [])) dot);
      not_dots = differs bytes (46 ∷ 46 ∷ []) (not_true (bytes_eq bytes (46 ∷ 46 ∷ [])) two);
    }

names_are : (names : List (List ℕ)) → are_names names ≡ true → AllByRecursion IsName names
names_are [] e = tt
names_are (name ∷ names) e = let (here, later) = both_true (is_name name) (are_names names) e in (name_is name here, names_are names later)

path_fits : (word : List ℕ) (path : Path) → path_of word ≡ Some path → FitsPath path
path_fits [] path e = absurd cc
path_fits (b ∷ bs) path e =
    elim (b == 47) as (λ t. cond t (path_with (names_in (pieces bs))) None ≡ Some path → FitsPath path) [
      | true ↦ λ h. let (good, same) = path_named (pieces bs) path h in subst FitsPath same (split_some 47 bs, names_are (pieces bs) good)
      | false ↦ λ h. absurd cc
    ] e

pub path_word_fits : (word : List ℕ) (path : Path) → path_word word ≡ Ok path → FitsPath path
unfolding path_word
path_word_fits word path e = path_fits (unescaped word) path (found fault.Path (path_of (unescaped word)) path e)

-- LENGTHS
undone_short : (o : Option ℕ) (behind here : List ℕ) (n : ℕ) → suc (length behind) ≤ n → length here ≤ n → length (undone o behind here) ≤ n
undone_short None behind here n some none = none
undone_short (Some b) behind here n some none = some

unescaped_short : (word : List ℕ) → length (unescaped word) ≤ length word
unescaped_short [] = omega arith
unescaped_short (b ∷ []) = omega arith
unescaped_short (b ∷ c ∷ []) = omega arith
unescaped_short (b ∷ high ∷ low ∷ bs) =
    let far = unescaped_short bs in
    let near = unescaped_short (high ∷ low ∷ bs) in
    undone_short (escape b high low) (unescaped bs) (b ∷ unescaped (high ∷ low ∷ bs)) (suc (suc (suc (length bs)))) (omega (arith, far)) (omega (arith, near))

abbrev pub IsShort : ℕ → List ℕ → Type 0
IsShort n part = length part ≤ n

longer : (n : ℕ) (parts : List (List ℕ)) → AllByRecursion (IsShort n) parts → AllByRecursion (IsShort (suc n)) parts
longer n [] all = tt
longer n (part ∷ parts) (here, later) = (omega (arith, here), longer n parts later)

onto_short : (n b : ℕ) (parts : List (List ℕ)) → AllByRecursion (IsShort n) parts → AllByRecursion (IsShort (suc n)) (onto_first b parts)
onto_short n b [] all = (omega arith, tt)
onto_short n b (part ∷ parts) (here, later) = (omega (arith, here), longer n parts later)

split_short : (c : ℕ) (bytes : List ℕ) → AllByRecursion (IsShort (length bytes)) (slice_split (λ b. b == c) bytes)
split_short c [] = (omega arith, tt)
split_short c (b ∷ bytes) =
    let rest = split_short c bytes in
    elim (b == c) as (λ t. AllByRecursion (IsShort (suc (length bytes))) (cond t ([] ∷ slice_split (λ b. b == c) bytes) (onto_first b (slice_split (λ b. b == c) bytes)))) [
      | true ↦ (omega arith, longer (length bytes) (slice_split (λ b. b == c) bytes) rest)
      | false ↦ onto_short (length bytes) b (slice_split (λ b. b == c) bytes) rest
    ]

shorter : (m n : ℕ) (parts : List (List ℕ)) → m ≤ n → AllByRecursion (IsShort m) parts → AllByRecursion (IsShort n) parts
shorter m n [] le all = tt
shorter m n (part ∷ parts) le (here, later) = (omega (arith, here, le), shorter m n parts le later)

pub words_short : (line : List ℕ) → length line ≤ 4096 → AllByRecursion (IsShort 4096) (words_of line)
words_short line short =
    filter_all (IsShort 4096) (λ word. not (length word == 0)) (slice_split (λ b. b == 32) line)
    (shorter (length line) 4096 (slice_split (λ b. b == 32) line) short (split_short 32 line))

-- CONTENTS
content_same : (x y : Filling) → Some x ≡ Some y → x ≡ y
content_same x y e = cc

replicate_len : (n b : ℕ) → length (replicate n b) ≡ n
replicate_len zero b = refl
replicate_len (suc n) b = ap suc (replicate_len n b)

filled_is : (count byte : Option ℕ) (content : Filling) → ((n : ℕ) → count ≡ Some n → n ≤ 67108864) → filled count byte ≡ Some content → FitsContent content
filled_is None byte content small e = absurd cc
filled_is (Some n) None content small e = absurd cc
filled_is (Some n) (Some b) content small e = subst FitsContent (content_same (Repeat n b) content e) (omega (arith, replicate_len n b, small n refl))

filled_fits : (o byte : Option ℕ) (content : Filling) → filled (within 0 67108864 o) byte ≡ Some content → FitsContent content
filled_fits o byte content e = filled_is (within 0 67108864 o) byte content (λ n is. (within_is 0 67108864 o n is).1) e

content_fits : (word : List ℕ) (content : Filling) → length word ≤ 4096 → content_of word ≡ Some content → FitsContent content
content_fits [] content short e = absurd cc
content_fits (b ∷ bs) content short e =
    elim (b == 61) as (λ t. cond t (Some (Given bs)) (cond (b == 42) (repeated bs) None) ≡ Some content → FitsContent content) [
      | true ↦ λ h. subst FitsContent (content_same (Given bs) content h) (omega (arith, short))
      | false ↦ λ h. elim (b == 42) as (λ t. cond t (repeated bs) None ≡ Some content → FitsContent content) [
        | true ↦ λ g. filled_fits (number_of (before_first (λ b. b == 58) bs)) (hex_byte (after_first (λ b. b == 58) bs)) content g
        | false ↦ λ g. absurd cc
      ] h
    ] e

pub content_word_fits : (word : List ℕ) (content : Filling) → length word ≤ 4096 → content_word word ≡ Ok content → FitsContent content
unfolding content_word
content_word_fits word content short e =
    content_fits (unescaped word) content (omega (arith, unescaped_short word, short)) (found fault.Content (content_of (unescaped word)) content e)
