-- Bytes all of which are good are text without NUL and `/`.
use Rattle.std.proofs.Common.{◌≡◌, ◌≤◌, ℕ, zero, suc, true, false, cond, List, [], ◌∷◌, length, take, refl, ap, subst, ◌∙◌, arith}
use Rattle.std.specs.Prelude.{IsTrue}
use Rattle.std.specs.List.{All, take_while}
use Rattle.std.specs.Str.{IsUtf8, is_utf8}
use Rattle.std.specs.Str.Lossy.{utf8_valid_len, valid_len_up_to}
use Rattle.std.proofs.lemmas.List.{take_all}
use Rattle.std.proofs.lemmas.List.Sums.{take_while-cons}
use Rattle.std.proofs.lemmas.Str.{IsUtf8-nil, IsUtf8-from_is_utf8, is_utf8-from_IsUtf8, utf8_valid_len-IsUtf8}
use Rattle.nuc_base.specs.Names.{IsName, is_plain, good_len}

up_to_le : (bs : List ℕ) (n : ℕ) → valid_len_up_to bs n ≤ n
up_to_le bs zero = omega arith
up_to_le bs (suc n) =
    let rest = up_to_le bs n in
    elim (is_utf8 (take (suc n) bs)) as (λ t. cond t (suc n) (valid_len_up_to bs n) ≤ suc n) [ true ↦ omega arith | false ↦ omega arith ]

up_to_all : (bs : List ℕ) (n : ℕ) → valid_len_up_to bs n ≡ n → is_utf8 (take n bs) ≡ true
up_to_all bs zero e = is_utf8-from_IsUtf8 [] IsUtf8-nil
up_to_all bs (suc n) e =
    let rest = up_to_le bs n in
    elim (is_utf8 (take (suc n) bs)) as (λ t. cond t (suc n) (valid_len_up_to bs n) ≡ suc n → t ≡ true) [
      | true ↦ λ h. refl
      | false ↦ λ h. absurd (omega arith)
    ] e

pub text_of_len : (bs : List ℕ) → utf8_valid_len bs ≡ length bs → IsUtf8 bs
unfolding utf8_valid_len
text_of_len bs e = IsUtf8-from_is_utf8 bs (subst (λ l. is_utf8 l ≡ true) (take_all (length bs) bs (omega arith)) (up_to_all bs (length bs) e))

all_cons : (P : ℕ → Type 0) (b : ℕ) (bs : List ℕ) → P b → All P bs → All P (b ∷ bs)
all_cons P b bs p all zero d lt = p
all_cons P b bs p all (suc k) d lt = all k d (omega arith)

pub plain_of_len : (bs : List ℕ) → length bs ≤ length (take_while is_plain bs) → All (λ b. IsTrue (is_plain b)) bs
plain_of_len [] le = λ k d lt. absurd (omega arith)
plain_of_len (b ∷ bs) le =
    elim (is_plain b) as (λ t. is_plain b ≡ t → suc (length bs) ≤ length (cond t (b ∷ take_while is_plain bs) []) → All (λ b. IsTrue (is_plain b)) (b ∷ bs)) [
      | true ↦ λ t h. all_cons (λ b. IsTrue (is_plain b)) b bs t (plain_of_len bs (omega arith))
      | false ↦ λ t h. absurd (omega arith)
    ] refl (subst (λ l. suc (length bs) ≤ length l) (take_while-cons is_plain b bs) le)

pub take_plain : (bs : List ℕ) → All (λ b. IsTrue (is_plain b)) bs → take_while is_plain bs ≡ bs
take_plain [] all = refl
take_plain (b ∷ bs) all =
    take_while-cons is_plain b bs
    ∙ ap (λ t. cond t (b ∷ take_while is_plain bs) []) (all 0 b (omega arith))
    ∙ ap (λ l. b ∷ l) (take_plain bs (λ k d lt. all (suc k) d (omega arith)))

pub name-good_len : (bs : List ℕ) → IsName bs → good_len bs ≡ length bs
name-good_len bs name = ap utf8_valid_len (take_plain bs name.plain) ∙ utf8_valid_len-IsUtf8 bs name.text
