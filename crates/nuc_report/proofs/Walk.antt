use Rattle.std.proofs.Common.{◌≡◌, refl, sym, subst, ap, ◌∙◌, ℕ, zero, suc, ◌+◌, List, [], ◌∷◌, ◌++◌, length, take, append_assoc, add-one}
use Rattle.std.proofs.lemmas.List.{append-nil, length-map}
use Rattle.std.proofs.Math.Seq.{take-length}
use Rattle.std.specs.FinMap.{entries, keys, len, len-entries}
use Rattle.nuc_base.specs.Trees.{Nodes}
use Rattle.std.specs.List.{flat_map, slice_get}
use Rattle.std.specs.Option.{option_map_or}
use Rattle.nuc_report.specs.Report.{tree_text}

next : {X : Type 0} (text : X → List ℕ) (xs : List X) (i : ℕ)
    → flat_map text (take (suc i) xs) ≡ flat_map text (take i xs) ++ option_map_or text (slice_get xs i) []
next text [] zero = refl
next text [] (suc i) = refl
next text (x ∷ xs) zero = append-nil (text x)
next text (x ∷ xs) (suc i) = ap (λ rest. text x ++ rest) (next text xs i) ∙ sym (append_assoc (text x) _ _)

-- a walk by position has the text of one more place
pub walked : {X : Type 0} (text : X → List ℕ) (xs : List X) (i : ℕ) (start before after : List ℕ)
    → before ≡ start ++ flat_map text (take i xs) → after ≡ before ++ option_map_or text (slice_get xs i) []
    → after ≡ start ++ flat_map text (take (i + 1) xs)
walked text xs i start before after b a =
    rw (a, b, add-one, next text xs i) (append_assoc start _ _)

pub all_keys : (nodes : Nodes) (i : ℕ) → i ≡ len nodes → take i (keys nodes) ≡ keys nodes
all_keys nodes i e =
    let counted : i ≡ length (keys nodes) = e ∙ len-entries nodes ∙ sym (length-map (entries nodes) (λ e. e.0)) in
    rw counted (take-length (keys nodes))

-- five texts that were pushed one after another
pub pushed_five : (start a b c d e one two three four five : List ℕ)
    → one ≡ start ++ a → two ≡ one ++ b → three ≡ two ++ c → four ≡ three ++ d → five ≡ four ++ e
    → five ≡ start ++ (a ++ b ++ c ++ d ++ e)
pushed_five start a b c d e one two three four five f g h k l = rw (l, k, h, g, f) (simp append_assoc)

-- nine texts that were pushed one after another
pub pushed_nine : (start a b c d e f g h i one two three four five six seven eight nine : List ℕ)
    → one ≡ start ++ a → two ≡ one ++ b → three ≡ two ++ c → four ≡ three ++ d → five ≡ four ++ e
    → six ≡ five ++ f → seven ≡ six ++ g → eight ≡ seven ++ h → nine ≡ eight ++ i
    → nine ≡ start ++ (a ++ b ++ c ++ d ++ e ++ f ++ g ++ h ++ i)
pushed_nine start a b c d e f g h i one two three four five six seven eight nine p q r s t u v w x =
    rw (x, w, v, u, t, s, r, q, p) (simp append_assoc)

-- the text of a tree that is known by other nodes
pub tree_pushed : (known nodes : Nodes) (before after : List ℕ) → known ≡ nodes → after ≡ before ++ tree_text known → after ≡ before ++ tree_text nodes
tree_pushed known nodes before after same pushed = subst (λ tree. after ≡ before ++ tree_text tree) same pushed
