-- No two candidates of one name are the same name, so among one more than the names that are taken one is free.
use Rattle.std.proofs.Common.{◌≡◌, ◌≢◌, ◌<◌, ◌≤◌, ◌+◌, ◌^◌, ℕ, suc, true, false, cond, List, [], ◌∷◌, ◌++◌, length, get_or, codes, refl, ap, sym, subst, ◌∙◌, inl, inr, arith, nat_eq, nat_lt, eqb-true}
use Rattle.std.specs.Fmt.{decimal}
use Rattle.std.specs.List.{All}
use Rattle.std.proofs.lemmas.Bool.Decides.{nat_tests}
use Rattle.std.proofs.lemmas.Fmt.{decimal_injective, decimal_is_IsNumeral}
use Rattle.std.proofs.lemmas.List.{append_assoc, append_cancel_right, get_or_at, length-append}
use Rattle.std.proofs.lemmas.List.Elements.{All-nil, All-cons}
use Rattle.std.proofs.lemmas.List.Sums.{AllPass-from_list_all}
use Rattle.nuc_base.specs.Candidates.{extension, label, candidate, CandidatesDiffer}
use Rattle.nuc_base.specs.SamePlace.{SameName, same_name-sym, same_name-trans, same_name-or_not, same_name-equal}
use Rattle.nuc_base.proofs.Candidates.{digits_all}

-- above the space
abbrev High : ℕ → Type 0
High b = nat_lt 32 b ≡ true

no_space : (qs ds es : List ℕ) → All High ds → ds ≡ qs ++ 32 ∷ es → ⊥
no_space qs ds es high e =
    let len : length ds ≡ length qs + suc (length es) = ap length e ∙ length-append qs (32 ∷ es) in
    let byte : get_or ds (length qs) 0 ≡ 32 = ap (λ l. get_or l (length qs) 0) e ∙ get_or_at qs 32 es 0 (length qs) refl in
    let above : nat_lt 32 32 ≡ true = subst High byte (high (length qs) 0 (omega arith)) in
    cc

-- what stands after the last space
last_word : (ps qs ds es : List ℕ) → All High ds → All High es → ps ++ 32 ∷ ds ≡ qs ++ 32 ∷ es → ds ≡ es
last_word [] [] ds es high above e = cc
last_word [] (q ∷ qs) ds es high above e = absurd (no_space qs ds es high (cc))
last_word (p ∷ ps) [] ds es high above e = absurd (no_space ps es ds above (cc))
last_word (p ∷ ps) (q ∷ qs) ds es high above e = last_word ps qs ds es high above (cc)

-- the last word of a label, and what stands before its space
word : ℕ → List ℕ
word n = cond (nat_eq n 1) (codes "copy") (decimal n)

words : ℕ → List ℕ
words n = cond (nat_eq n 1) (codes " (conflicted") (codes " (conflicted copy")

label_words : (n : ℕ) → label n ≡ words n ++ ((32 ∷ word n) ++ 41 ∷ [])
unfolding word words
label_words n =
    elim (nat_eq n 1) as (λ t. cond t (codes " (conflicted copy)") (codes " (conflicted copy " ++ (decimal n ++ codes ")"))
    ≡ cond t (codes " (conflicted") (codes " (conflicted copy") ++ ((32 ∷ cond t (codes "copy") (decimal n)) ++ 41 ∷ [])) [
      | true ↦ refl
      | false ↦ refl
    ]

high_digit : (b : ℕ) → 48 ≤ b → b ≤ 57 → High b
high_digit b low top = grind (arith, nat_tests)

word_is_high : (n : ℕ) → n < 2 ^ 64 → All High (word n)
unfolding word
word_is_high n small =
    elim (nat_eq n 1) as (λ t. All High (cond t (codes "copy") (decimal n))) [
      | true ↦ AllPass-from_list_all (λ b. nat_lt 32 b) (codes "copy") refl
      | false ↦ digits_all High high_digit n small
    ]

not_copy : (n : ℕ) → n < 2 ^ 64 → decimal n ≡ codes "copy" → ⊥
not_copy n small e =
    let digit = digits_all (λ b. b ≤ 57) (λ b low top. top) n small 0 0 (decimal_is_IsNumeral n small).0.0 in
    let letter : get_or (decimal n) 0 0 ≡ 99 = ap (λ l. get_or l 0 0) e in
    omega (arith, digit)

one_word : (i j : ℕ) → i < 2 ^ 64 → j < 2 ^ 64 → word i ≡ word j → i ≡ j
unfolding word
one_word i j small least e =
    elim (nat_eq i 1) as (λ s. nat_eq i 1 ≡ s → cond s (codes "copy") (decimal i) ≡ cond (nat_eq j 1) (codes "copy") (decimal j) → i ≡ j) [
      | true ↦ λ s. elim (nat_eq j 1) as (λ t. nat_eq j 1 ≡ t → codes "copy" ≡ cond t (codes "copy") (decimal j) → i ≡ j) [
        | true ↦ λ t w. eqb-true i 1 s ∙ sym (eqb-true j 1 t)
        | false ↦ λ t w. absurd (not_copy j least (sym w))
      ] refl
      | false ↦ λ s. elim (nat_eq j 1) as (λ t. nat_eq j 1 ≡ t → decimal i ≡ cond t (codes "copy") (decimal j) → i ≡ j) [
        | true ↦ λ t w. absurd (not_copy i small w)
        | false ↦ λ t w. decimal_injective i j small least w
      ] refl
    ] refl e

in_words : (front back : List ℕ) (n : ℕ) → front ++ (label n ++ back) ≡ (((front ++ words n) ++ 32 ∷ word n) ++ 41 ∷ []) ++ back
in_words front back n =
    sym (append_assoc front (label n) back)
    ∙ ap (λ l. (front ++ l) ++ back) (label_words n ∙ sym (append_assoc (words n) (32 ∷ word n) (41 ∷ [])))
    ∙ ap (λ l. l ++ back) (sym (append_assoc front (words n ++ 32 ∷ word n) (41 ∷ [])))
    ∙ ap (λ l. (l ++ 41 ∷ []) ++ back) (sym (append_assoc front (words n) (32 ∷ word n)))

one_label : (p q back : List ℕ) (i j : ℕ) → i < 2 ^ 64 → j < 2 ^ 64 → p ++ (label i ++ back) ≡ q ++ (label j ++ back) → i ≡ j
one_label p q back i j small least e =
    let whole = sym (in_words p back i) ∙ e ∙ in_words q back j in
    let closed = append_cancel_right _ _ back whole in
    let open' = append_cancel_right _ _ (41 ∷ []) closed in
    one_word i j small least (last_word (p ++ words i) (q ++ words j) (word i) (word j) (word_is_high i small) (word_is_high j least) open')

-- candidates with the same bytes have one number
one_candidate : (name : List ℕ) (i j : ℕ) → i < 2 ^ 64 → j < 2 ^ 64 → candidate name i ≡ candidate name j → i ≡ j
unfolding candidate
one_candidate name i j small least e = one_label _ _ (extension name) i j small least e

pub candidates_differ : CandidatesDiffer
candidates_differ name i j some more small least other same = other (one_candidate name i j small least (same_name-equal _ _ same))

-- names, of which no two up to n are the same
abbrev Apart : (ℕ → List ℕ) → ℕ → Type 0
Apart c n = (i j : ℕ) → i ≤ n → j ≤ n → i ≢ j → ¬ (SameName (c i) (c j))

-- the numbers without i
skip : ℕ → ℕ → ℕ
skip i k = cond (nat_lt k i) k (k + 1)

skip-le : (i k : ℕ) → skip i k ≤ k + 1
unfolding skip
skip-le i k = grind (arith, nat_tests)

skip-other : (i k : ℕ) → skip i k ≢ i
unfolding skip
skip-other i k = grind (arith, nat_tests)

skip-apart : (i j k : ℕ) → skip i j ≡ skip i k → j ≡ k
unfolding skip
skip-apart i j k = grind (arith, nat_tests)

one_free : (taken : List (List ℕ)) (c : ℕ → List ℕ) → Apart c (length taken)
    → (i : ℕ) × (i ≤ length taken) × All (λ t. ¬ (SameName (c i) t)) taken
one_free [] c apart = (0, omega arith, All-nil _)
one_free (t ∷ ts) c apart =
    let first = one_free ts c (λ i j l m. apart i j (omega arith) (omega arith)) in
    let i = first.0 in
    let d = λ (k : ℕ). c (skip i k) in
    let second = one_free ts d (λ j k l m other. apart (skip i j) (skip i k) (omega (arith, skip-le i j)) (omega (arith, skip-le i k))
    (λ e. other (skip-apart i j k e))) in
    let k = second.0 in
    elim (same_name-or_not (c i) t) [
      | inr other ↦ (i, omega (arith, first.1), All-cons (λ u. ¬ (SameName (c i) u)) t ts other first.2)
      | inl same ↦ (
        skip i k,
        omega (arith, skip-le i k, second.1),
        All-cons (λ u. ¬ (SameName (c (skip i k)) u)) t ts
            (λ s. apart (skip i k) i (omega (arith, skip-le i k, second.1)) (omega (arith, first.1)) (skip-other i k)
            (same_name-trans (c (skip i k)) t (c i) s (same_name-sym (c i) t same))) second.2,
      )
    ]

-- among as many candidates as there are names taken, and one more, one is free
pub free_candidate : (name : List ℕ) (taken : List (List ℕ)) → length taken + 1 < 2 ^ 64
    → (i : ℕ) × (0 < i) × (i ≤ length taken + 1) × All (λ t. ¬ (SameName (candidate name i) t)) taken
free_candidate name taken few =
    let free = one_free taken (λ k. candidate name (k + 1)) (λ i j l m other. candidates_differ name (i + 1) (j + 1) (omega arith) (omega arith)
    (omega arith) (omega arith) (omega arith)) in
    (free.0 + 1, omega arith, omega (arith, free.1), free.2)
