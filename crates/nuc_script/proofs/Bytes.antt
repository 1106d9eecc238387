-- What is cut from bytes, or stands for them, is bytes.
use Rattle.std.proofs.Common.{◌≡◌, ◌≢◌, ℕ, zero, suc, ◌≤◌, ◌<◌, Bool, true, false, cond, ◌==◌, not, List, [], ◌∷◌, length, replicate, Option, Some, None, refl, subst, arith}
use Rattle.std.specs.Prelude.{nat_lt, filter, IfSome}
use Rattle.std.specs.List.{AllByRecursion, slice_split, onto_first, before_first, after_first}
use Rattle.std.proofs.lemmas.Bool.Decides.{nat_tests}
use Rattle.std.proofs.lemmas.List.Elements.{All-nil, All-cons}
use Rattle.nuc_base.specs.declared.path.Path.{Path}
use Rattle.nuc_hash.specs.declared.filling.Filling.{Filling}
use Rattle.nuc_hash.specs.declared.filling.Filling.TheVariants.{Given, Repeat}
use Rattle.nuc_script.specs.Escapes.{hex_value, byte_of, escape, undone, unescaped}
use Rattle.nuc_script.specs.Numbers.{number_of, within}
use Rattle.nuc_script.specs.Paths.{are_names, names_in, path_with, path_of, pieces}
use Rattle.nuc_script.specs.Contents.{hex_byte, filled, repeated, content_of}
use Rattle.nuc_script.specs.Words.{words_of}
use Rattle.nuc_script.proofs.Cuts.{Lacks}
use Rattle.nuc_script.proofs.Printed.{IsByte}
use Rattle.nuc_script.proofs.PathsBack.{IsPath}

abbrev pub AreBytes : List ℕ → Type 0
AreBytes bytes = AllByRecursion IsByte bytes

-- ESCAPES
hex_small : (b : ℕ) → IfSome (hex_value b) (λ v. v < 16)
hex_small b = grind (arith, nat_tests)

byte_small : (high low : Option ℕ) → IfSome high (λ v. v < 16) → IfSome low (λ v. v < 16) → IfSome (byte_of high low) IsByte
byte_small None low h l = tt
byte_small (Some a) None h l = tt
byte_small (Some a) (Some b) h l = omega (arith, h, l)

escape_small : (b high low : ℕ) → IfSome (escape b high low) IsByte
escape_small b high low =
    let both = byte_small (hex_value high) (hex_value low) (hex_small high) (hex_small low) in
    elim (b == 37) as (λ t. IfSome (cond t (byte_of (hex_value high) (hex_value low)) None) IsByte) [ true ↦ both | false ↦ tt ]

undone_bytes : (o : Option ℕ) (behind here : List ℕ) → IfSome o IsByte → AreBytes behind → AreBytes here → AreBytes (undone o behind here)
undone_bytes None behind here small all more = more
undone_bytes (Some b) behind here small all more = (small, all)

pub unescaped_bytes : (bytes : List ℕ) → AreBytes bytes → AreBytes (unescaped bytes)
unescaped_bytes [] all = tt
unescaped_bytes (b ∷ []) all = all
unescaped_bytes (b ∷ c ∷ []) all = all
unescaped_bytes (b ∷ high ∷ low ∷ bs) (first, (second, (third, all))) =
    undone_bytes (escape b high low) (unescaped bs) (b ∷ unescaped (high ∷ low ∷ bs)) (escape_small b high low) (unescaped_bytes bs all)
    (first, unescaped_bytes (high ∷ low ∷ bs) (second, (third, all)))

-- PIECES
onto_all : (P : List ℕ → Type 0) (b : ℕ) (parts : List (List ℕ)) → ((part : List ℕ) → P part → P (b ∷ part)) → P (b ∷ []) → AllByRecursion P parts
    → AllByRecursion P (onto_first b parts)
onto_all P b [] more alone all = (alone, tt)
onto_all P b (part ∷ parts) more alone (here, later) = (more part here, later)

split_bytes : (c : ℕ) (bytes : List ℕ) → AreBytes bytes → AllByRecursion AreBytes (slice_split (λ b. b == c) bytes)
split_bytes c [] all = (tt, tt)
split_bytes c (b ∷ bytes) (small, all) =
    let rest = split_bytes c bytes all in
    elim (b == c) as (λ t. AllByRecursion AreBytes (cond t ([] ∷ slice_split (λ b. b == c) bytes) (onto_first b (slice_split (λ b. b == c) bytes)))) [
      | true ↦ (tt, rest)
      | false ↦ onto_all AreBytes b (slice_split (λ b. b == c) bytes) (λ part is. (small, is)) (small, tt) rest
    ]

split_lacking : (c : ℕ) (bytes : List ℕ) → AllByRecursion (λ part. Lacks c part) (slice_split (λ b. b == c) bytes)
split_lacking c [] = (All-nil (λ x. x ≢ c), tt)
split_lacking c (b ∷ bytes) =
    let rest = split_lacking c bytes in
    elim (b == c) as (λ t. (b == c) ≡ t → AllByRecursion (λ part. Lacks c part) (cond t ([] ∷ slice_split (λ b. b == c) bytes) (onto_first b (slice_split (λ b. b == c) bytes)))) [
      | true ↦ λ e. (All-nil (λ x. x ≢ c), rest)
      | false ↦ λ e.
          let other : b ≢ c = grind (arith, nat_tests) in
          onto_all (λ part. Lacks c part) b (slice_split (λ b. b == c) bytes) (λ part is. All-cons (λ x. x ≢ c) b part other is)
          (All-cons (λ x. x ≢ c) b [] other (All-nil (λ x. x ≢ c))) rest
    ] refl

onto_some : (b : ℕ) (parts : List (List ℕ)) → 0 < length (onto_first b parts)
onto_some b [] = omega arith
onto_some b (part ∷ parts) = omega arith

pub split_some : (c : ℕ) (bytes : List ℕ) → 0 < length (slice_split (λ b. b == c) bytes)
split_some c [] = omega arith
split_some c (b ∷ bytes) =
    elim (b == c) as (λ t. 0 < length (cond t ([] ∷ slice_split (λ b. b == c) bytes) (onto_first b (slice_split (λ b. b == c) bytes)))) [
      | true ↦ omega arith
      | false ↦ onto_some b (slice_split (λ b. b == c) bytes)
    ]

-- WORDS
pub filter_all : (P : List ℕ → Type 0) (p : List ℕ → Bool) (words : List (List ℕ)) → AllByRecursion P words → AllByRecursion P (filter p words)
filter_all P p [] all = tt
filter_all P p (word ∷ words) (here, later) =
    let rest = filter_all P p words later in
    elim (p word) as (λ t. AllByRecursion P (cond t (word ∷ filter p words) (filter p words))) [ true ↦ (here, rest) | false ↦ rest ]

pub words_bytes : (line : List ℕ) → AreBytes line → AllByRecursion AreBytes (words_of line)
words_bytes line all = filter_all AreBytes (λ word. not (length word == 0)) (slice_split (λ b. b == 32) line) (split_bytes 32 line all)

pub lines_bytes : (bytes : List ℕ) → AreBytes bytes → AllByRecursion AreBytes (slice_split (λ b. b == 10) bytes)
lines_bytes bytes all = split_bytes 10 bytes all

-- WHAT IS READ
some_is : {A : Type 0} (x y : A) → Some x ≡ Some y → x ≡ y
some_is x y e = cc

pub path_named : (names : List (List ℕ)) (path : Path) → path_with (names_in names) ≡ Some path → (are_names names ≡ true) × (record { names = names } ≡ path)
path_named names path e =
    elim (are_names names) as (λ t. path_with (cond t (Some names) None) ≡ Some path → (t ≡ true) × (record { names = names } ≡ path)) [
      | true ↦ λ h. (refl, some_is (record { names = names }) path h)
      | false ↦ λ h. absurd cc
    ] e

pub path_is : (word : List ℕ) (path : Path) → AreBytes word → path_of word ≡ Some path → IsPath path.names
path_is [] path all e = absurd cc
path_is (b ∷ bs) path (small, all) e =
    elim (b == 47) as (λ t. cond t (path_with (names_in (pieces bs))) None ≡ Some path → IsPath path.names) [
      | true ↦ λ h.
          let (good, same) = path_named (pieces bs) path h in
          subst (λ (p : Path). IsPath p.names) same
          (record { some = split_some 47 bs; good = good; lacking = split_lacking 47 bs; bytes = split_bytes 47 bs all })
      | false ↦ λ h. absurd cc
    ] e

pub within_is : (least most : ℕ) (o : Option ℕ) (n : ℕ) → within least most o ≡ Some n → (least ≤ n) × (n ≤ most)
within_is least most None n e = absurd cc
within_is least most (Some m) n e =
    elim (nat_lt m least) as (λ t. nat_lt m least ≡ t → cond t None (cond (nat_lt most m) None (Some m)) ≡ Some n → (least ≤ n) × (n ≤ most)) [
      | true ↦ λ a h. absurd cc
      | false ↦ λ a h. elim (nat_lt most m) as (λ t. nat_lt most m ≡ t → cond t None (Some m) ≡ Some n → (least ≤ n) × (n ≤ most)) [
        | true ↦ λ b g. absurd cc
        | false ↦ λ b g.
            let same = some_is m n g in
            let low : least ≤ m = grind (arith, nat_tests) in
            let high : m ≤ most = grind (arith, nat_tests) in
            (omega (arith, same, low), omega (arith, same, high))
      ] refl h
    ] refl e

-- a content that a script can give
abbrev pub HasBytes : Filling → Type 0
HasBytes (Given bytes) = AreBytes bytes
HasBytes (Repeat count byte) = IsByte byte × (count ≤ 67108864)

filled_bytes : (count byte : Option ℕ) (content : Filling) → ((n : ℕ) → count ≡ Some n → n ≤ 67108864) → IfSome byte IsByte
    → filled count byte ≡ Some content → HasBytes content
filled_bytes None byte content few small e = absurd cc
filled_bytes (Some n) None content few small e = absurd cc
filled_bytes (Some n) (Some b) content few small e = subst HasBytes (some_is (Repeat n b) content e) (small, few n refl)

hex_byte_small : (bytes : List ℕ) → IfSome (hex_byte bytes) IsByte
hex_byte_small [] = tt
hex_byte_small (high ∷ []) = tt
hex_byte_small (high ∷ low ∷ []) = byte_small (hex_value high) (hex_value low) (hex_small high) (hex_small low)
hex_byte_small (high ∷ low ∷ next ∷ bytes) = tt

repeated_bytes : (bytes : List ℕ) (content : Filling) → repeated bytes ≡ Some content → HasBytes content
repeated_bytes bytes content e =
    let count = number_of (before_first (λ b. b == 58) bytes) in
    filled_bytes (within 0 67108864 count) (hex_byte (after_first (λ b. b == 58) bytes)) content
    (λ n is. (within_is 0 67108864 count n is).1) (hex_byte_small (after_first (λ b. b == 58) bytes)) e

pub content_is : (word : List ℕ) (content : Filling) → AreBytes word → content_of word ≡ Some content → HasBytes content
content_is [] content all e = absurd cc
content_is (b ∷ bs) content (small, all) e =
    elim (b == 61) as (λ t. cond t (Some (Given bs)) (cond (b == 42) (repeated bs) None) ≡ Some content → HasBytes content) [
      | true ↦ λ h. subst HasBytes (some_is (Given bs) content h) all
      | false ↦ λ h. elim (b == 42) as (λ t. cond t (repeated bs) None ≡ Some content → HasBytes content) [
        | true ↦ λ g. repeated_bytes bs content g
        | false ↦ λ g. absurd cc
      ] h
    ] e

pub within_back : (least most n : ℕ) → least ≤ n → n ≤ most → within least most (Some n) ≡ Some n
within_back least most n low high =
    let first : nat_lt n least ≡ false = grind (arith, nat_tests) in
    let second : nat_lt most n ≡ false = grind (arith, nat_tests) in
    rw (first, second) refl
