-- Printed words, joined to a line, are its words again.
use Rattle.std.proofs.Common.{◌≡◌, ◌≢◌, ℕ, ◌≤◌, ◌<◌, false, ◌==◌, not, List, [], ◌∷◌, ◌++◌, length, refl, ap, ◌∙◌, arith}
use Rattle.std.specs.Prelude.{nat_lt, filter}
use Rattle.std.specs.List.{AllByRecursion, list_any, slice_split}
use Rattle.std.proofs.lemmas.Bool.Decides.{nat_tests}
use Rattle.std.proofs.lemmas.List.Elements.{All-nil, All-cons}
use Rattle.nuc_script.specs.Lines.{is_control}
use Rattle.nuc_script.specs.Text.{joined}
use Rattle.nuc_script.specs.Words.{words_of}
use Rattle.nuc_script.proofs.Cuts.{Lacks, split_at, split_lacks}
use Rattle.nuc_script.proofs.Printed.{IsGraphic}

-- a printed word
pub record IsWord (word : List ℕ) : Type 0 where
  pub some : 0 < length word
  pub graphic : AllByRecursion IsGraphic word

lacks_cons : (c b : ℕ) (word : List ℕ) → b ≢ c → Lacks c word → Lacks c (b ∷ word)
lacks_cons c b word other lacks = All-cons (λ x. x ≢ c) b word other lacks

graphic_lacks : (c : ℕ) (word : List ℕ) → c < 33 → AllByRecursion IsGraphic word → Lacks c word
graphic_lacks c [] low all = All-nil (λ x. x ≢ c)
graphic_lacks c (b ∷ word) low ((least, most), all) =
    lacks_cons c b word (λ same. omega (arith, least, low, same)) (graphic_lacks c word low all)

kept : (word : List ℕ) (words : List (List ℕ)) → 0 < length word
    → filter (λ w. not (length w == 0)) (word ∷ words) ≡ word ∷ filter (λ w. not (length w == 0)) words
kept word words some = let test : (length word == 0) ≡ false = grind (arith, nat_tests) in rw test refl

pub words_back : (word : List ℕ) (words : List (List ℕ)) → IsWord word → AllByRecursion IsWord words → words_of (joined (word ∷ words)) ≡ word ∷ words
words_back word [] is all =
    ap (λ l. filter (λ w. not (length w == 0)) l) (split_lacks 32 word (graphic_lacks 32 word (omega arith) is.graphic)) ∙ kept word [] is.some
words_back word (next ∷ words) is (here, all) =
    ap (λ l. filter (λ w. not (length w == 0)) l) (split_at 32 word (joined (next ∷ words)) (graphic_lacks 32 word (omega arith) is.graphic))
    ∙ kept word (slice_split (λ b. b == 32) (joined (next ∷ words))) is.some ∙ ap (λ l. word ∷ l) (words_back next words here all)

-- NO CONTROL CHARACTER, AND NO LF
graphic_plain : (b : ℕ) → 32 ≤ b → b ≤ 126 → is_control b ≡ false
graphic_plain b low high =
    let first : nat_lt b 32 ≡ false = grind (arith, nat_tests) in
    let second : (b == 127) ≡ false = grind (arith, nat_tests) in
    rw (first, second) refl

-- a byte of a printed line
abbrev pub IsLineByte : ℕ → Type 0
IsLineByte b = (32 ≤ b) × (b ≤ 126)

line_append : (xs ys : List ℕ) → AllByRecursion IsLineByte xs → AllByRecursion IsLineByte ys → AllByRecursion IsLineByte (xs ++ ys)
line_append [] ys all more = more
line_append (x ∷ xs) ys (here, later) more = (here, line_append xs ys later more)

word_bytes : (word : List ℕ) → AllByRecursion IsGraphic word → AllByRecursion IsLineByte word
word_bytes [] all = tt
word_bytes (b ∷ word) ((low, high), all) = ((omega (arith, low), high), word_bytes word all)

pub line_bytes : (words : List (List ℕ)) → AllByRecursion IsWord words → AllByRecursion IsLineByte (joined words)
line_bytes [] all = tt
line_bytes (word ∷ []) (is, all) = word_bytes word is.graphic
line_bytes (word ∷ next ∷ words) (is, all) =
    line_append word (32 ∷ joined (next ∷ words)) (word_bytes word is.graphic) ((omega arith, omega arith), line_bytes (next ∷ words) all)

pub no_control : (line : List ℕ) → AllByRecursion IsLineByte line → list_any is_control line ≡ false
no_control [] all = refl
no_control (b ∷ line) ((low, high), all) = rw (graphic_plain b low high) (no_control line all)

pub no_lf : (line : List ℕ) → AllByRecursion IsLineByte line → Lacks 10 line
no_lf [] all = All-nil (λ x. x ≢ 10)
no_lf (b ∷ line) ((low, high), all) = lacks_cons 10 b line (λ same. omega (arith, low, same)) (no_lf line all)

head_is : (b : ℕ) (bs : List ℕ) (c : ℕ) (cs : List ℕ) → b ∷ bs ≡ c ∷ cs → b ≡ c
head_is b bs c cs same = cc

tail_is : (b : ℕ) (bs : List ℕ) (c : ℕ) (cs : List ℕ) → b ∷ bs ≡ c ∷ cs → bs ≡ cs
tail_is b bs c cs same = cc

-- the last byte of a printed line is no CR
pub no_cr_in : (line front : List ℕ) → AllByRecursion IsLineByte line → line ≢ front ++ 13 ∷ []
no_cr_in [] [] all same = cc
no_cr_in [] (b ∷ front) all same = cc
no_cr_in (b ∷ line) [] ((low, high), all) same = omega (arith, low, head_is b line 13 [] same)
no_cr_in (b ∷ line) (c ∷ front) (here, all) same = no_cr_in line front all (tail_is b line c (front ++ 13 ∷ []) same)
