-- The words of a call.
use Rattle.std.proofs.Common.{◌≡◌, ◌≢◌, ◌≤◌, ◌<◌, ℕ, List, [], ◌∷◌, length, map, slice_index_or, Global, sym, ◌∙◌, ap, arith}
use Rattle.std.specs.Rc.{rc_str_bytes}
use Rattle.std.specs.declared.rc.RcStr.{RcStr}

-- one word that is the command's, or isn't
pub one_word : (words : List (RcStr Global)) (word : RcStr Global) → 1 ≤ length words → length words < 2 → word ≡ slice_index_or words 0 word
    → map rc_str_bytes words ≡ rc_str_bytes word ∷ []
one_word [] word low high is = absurd (omega arith)
one_word (w ∷ []) word low high is = ap (λ w. rc_str_bytes w ∷ []) (sym is)
one_word (w ∷ v ∷ ws) word low high is = absurd (omega arith)

pub is_the_word : (words : List (RcStr Global)) (word : RcStr Global) (bytes run : List ℕ) → map rc_str_bytes words ≡ rc_str_bytes word ∷ [] → bytes ≡ rc_str_bytes word
    → bytes ≡ run → map rc_str_bytes words ≡ run ∷ []
is_the_word words word bytes run one text same = one ∙ ap (λ b. b ∷ []) (sym text ∙ same)

pub not_the_word : (words : List (RcStr Global)) (word : RcStr Global) (bytes run : List ℕ) → map rc_str_bytes words ≡ rc_str_bytes word ∷ [] → bytes ≡ rc_str_bytes word
    → bytes ≢ run → map rc_str_bytes words ≢ run ∷ []
not_the_word words word bytes run one text other are =
    let same : rc_str_bytes word ∷ [] ≡ run ∷ [] = sym one ∙ are in
    other (text ∙ (let first : rc_str_bytes word ≡ run = cc in first))
