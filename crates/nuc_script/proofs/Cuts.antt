-- A text, cut at the first of some byte.
use Rattle.std.proofs.Common.{◌≡◌, ◌≢◌, ℕ, ◌+◌, ◌<◌, true, false, ◌==◌, List, [], ◌∷◌, ◌++◌, length, get_or, refl, sym, ap, ◌∙◌, arith, take, drop}
use Rattle.std.specs.Prelude.{All}
use Rattle.std.specs.List.{slice_split, before_first, after_first, position_or_len}
use Rattle.std.proofs.lemmas.List.{take_at, drop_at, take_all, drop_all, append_assoc, get_or_append_left, get_or_at, length_push, take-append-drop, drop_more}
use Rattle.std.proofs.lemmas.List.Elements.{All-head, All-tail}
use Rattle.std.proofs.lemmas.List.Sums.{position_or_len_is}
use Rattle.std.proofs.lemmas.Bool.Decides.{nat_tests}
use Rattle.std.proofs.lemmas.Grind.{common_steps}

-- no byte of the text is c
abbrev pub Lacks : ℕ → List ℕ → Type 0
Lacks c xs = All (λ b. b ≢ c) xs

head_differs : (c x : ℕ) (xs : List ℕ) → Lacks c (x ∷ xs) → (x == c) ≡ false
head_differs c x xs h = let ne : x ≢ c = All-head (λ b. b ≢ c) x xs h in grind (arith, nat_tests)

same_test : (c : ℕ) → (c == c) ≡ true
same_test c = grind (arith, nat_tests)

position_or_len-Lacks : (c : ℕ) (xs : List ℕ) → Lacks c xs → position_or_len (λ x. x == c) xs ≡ length xs
position_or_len-Lacks c xs h =
    position_or_len_is (λ x. x == c) xs (length xs) 0 (omega arith) (λ k lt. let ne = h k 0 lt in grind (arith, nat_tests)) (λ lt. absurd (omega arith))

position_or_len-at : (c : ℕ) (xs ys : List ℕ) → Lacks c xs → position_or_len (λ x. x == c) (xs ++ c ∷ ys) ≡ length xs
position_or_len-at c xs ys h =
    position_or_len_is (λ x. x == c) (xs ++ c ∷ ys) (length xs) 0 (grind (arith, common_steps))
    (λ k lt. let ne = h k 0 lt in rw get_or_append_left (grind (arith, nat_tests))) (λ _. rw (get_or_at xs c ys 0 (length xs) refl) (same_test c))

pub before_lacks : (c : ℕ) (xs : List ℕ) → Lacks c xs → before_first (λ x. x == c) xs ≡ xs
before_lacks c xs h = ap (λ n. take n xs) (position_or_len-Lacks c xs h) ∙ take_all (length xs) xs (omega arith)

pub before_at : (c : ℕ) (xs ys : List ℕ) → Lacks c xs → before_first (λ x. x == c) (xs ++ c ∷ ys) ≡ xs
before_at c xs ys h = ap (λ n. take n (xs ++ c ∷ ys)) (position_or_len-at c xs ys h) ∙ take_at xs (c ∷ ys) (length xs) refl

pub after_lacks : (c : ℕ) (xs : List ℕ) → Lacks c xs → after_first (λ x. x == c) xs ≡ []
after_lacks c xs h = ap (λ n. drop (n + 1) xs) (position_or_len-Lacks c xs h) ∙ drop_all (length xs + 1) xs (omega arith)

pub after_at : (c : ℕ) (xs ys : List ℕ) → Lacks c xs → after_first (λ x. x == c) (xs ++ c ∷ ys) ≡ ys
after_at c xs ys h =
    ap (λ n. drop (n + 1) (xs ++ c ∷ ys)) (position_or_len-at c xs ys h)
    ∙ ap (drop (length xs + 1)) (sym (append_assoc xs (c ∷ []) ys)) ∙ drop_at (xs ++ c ∷ []) ys (length xs + 1) (length_push xs c)

pub split_lacks : (c : ℕ) (xs : List ℕ) → Lacks c xs → slice_split (λ x. x == c) xs ≡ xs ∷ []
split_lacks c [] h = refl
split_lacks c (x ∷ xs) h = rw (head_differs c x xs h, split_lacks c xs (All-tail (λ b. b ≢ c) x xs h))

pub split_at : (c : ℕ) (xs ys : List ℕ) → Lacks c xs → slice_split (λ x. x == c) (xs ++ c ∷ ys) ≡ xs ∷ slice_split (λ x. x == c) ys
split_at c [] ys h = rw (same_test c)
split_at c (x ∷ xs) ys h = rw (head_differs c x xs h, split_at c xs ys (All-tail (λ b. b ≢ c) x xs h))

-- the text round its byte i
pub text_round : (text : List ℕ) (c i : ℕ) → i < length text → get_or text i 0 ≡ c → text ≡ take i text ++ c ∷ drop 1 (drop i text)
text_round text c i within here =
    let cut : drop i text ≡ c ∷ drop (i + 1) text = drop_more text i 0 within ∙ ap (λ b. b ∷ drop (i + 1) text) here in
    let behind : drop 1 (drop i text) ≡ drop (i + 1) text = ap (drop 1) cut in
    sym (take-append-drop i text) ∙ ap (λ l. take i text ++ l) (cut ∙ ap (λ l. c ∷ l) (sym behind))
