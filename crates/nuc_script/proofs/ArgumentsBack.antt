-- Each word behind the first that is printed is read again.
use Rattle.std.proofs.Common.{◌≡◌, ℕ, ◌^◌, ◌≤◌, ◌<◌, Bool, true, false, cond, ◌&&◌, List, [], ◌∷◌, Option, Some, None, Ok, Err, codes, refl, sym, ap, subst, ◌∙◌, arith}
use Rattle.std.specs.Prelude.{nat_le, decimal}
use Rattle.std.specs.List.{AllByRecursion}
use Rattle.std.specs.Str.{bytes_eq}
use Rattle.std.proofs.lemmas.Bool.Decides.{nat_tests}
use Rattle.std.proofs.lemmas.List.Concat.{flat_map-cons}
use Rattle.nuc_base.specs.declared.path.Path.{Path}
use Rattle.nuc_hash.specs.declared.filling.Filling.{Filling}
use Rattle.nuc_hash.specs.declared.filling.Filling.TheVariants.{Given, Repeat}
use Rattle.nuc_script.specs.declared.fault.LineFault.{LineFault}
use Rattle.nuc_script.specs.declared.fault.LineFault.TheVariants as fault
use Rattle.nuc_script.specs.Escapes.{unescaped}
use Rattle.nuc_script.specs.Numbers.{number_of, within}
use Rattle.nuc_script.specs.Paths.{path_of}
use Rattle.nuc_script.specs.Contents.{content_of}
use Rattle.nuc_script.specs.Arguments.{or_fault, client_word, number_word, path_word, content_word, switch_word, order_word}
use Rattle.nuc_script.specs.Text.{escape_text, escaped, path_text, content_text, switch_text}
use Rattle.nuc_script.proofs.Numbers.{number_some}
use Rattle.nuc_script.proofs.Printed.{IsGraphic, unescaped_back, escaped_graphic, decimal_number}
use Rattle.nuc_script.proofs.JoinedWords.{IsWord}
use Rattle.nuc_script.proofs.PathsBack.{IsPath, plain_path, path_escaped, path_back, path_is_word, plain_bytes}
use Rattle.nuc_script.proofs.RepeatsBack.{unescaped_digits, digits_graphic, unescaped_repeat, repeated_back, repeat_graphic}
use Rattle.nuc_script.proofs.Bytes.{AreBytes, HasBytes, unescaped_bytes, path_is, content_is, within_is, within_back}

pub found : {A : Type 0} (kind : LineFault) (o : Option A) (x : A) → or_fault kind o ≡ Ok x → o ≡ Some x
found kind None x e = absurd cc
found kind (Some y) x e = cc

-- NUMBERS
decimal_read : (n : ℕ) → n < 2 ^ 64 → number_of (unescaped (decimal n)) ≡ Some n
decimal_read n small =
    let number = decimal_number n small in
    ap number_of (unescaped_digits (decimal n) number.digits) ∙ number_some (decimal n) number.some ∙ number.value

pub decimal_word : (n : ℕ) → n < 2 ^ 64 → IsWord (decimal n)
decimal_word n small =
    let number = decimal_number n small in
    record { some = number.some; graphic = digits_graphic (decimal n) number.digits }

pub client_is : (clients n : ℕ) (word : List ℕ) → client_word clients word ≡ Ok n → (1 ≤ n) × (n ≤ clients)
unfolding client_word
client_is clients n word e = within_is 1 clients (number_of (unescaped word)) n (found fault.Client (within 1 clients (number_of (unescaped word))) n e)

pub client_back : (clients n : ℕ) → 1 ≤ n → n ≤ clients → n < 2 ^ 64 → client_word clients (decimal n) ≡ Ok n
unfolding client_word
client_back clients n low high small =
    ap (λ o. or_fault fault.Client (within 1 clients o)) (decimal_read n small) ∙ ap (or_fault fault.Client) (within_back 1 clients n low high)

pub number_is : (most n : ℕ) (word : List ℕ) → number_word most word ≡ Ok n → (1 ≤ n) × (n ≤ most)
unfolding number_word
number_is most n word e = within_is 1 most (number_of (unescaped word)) n (found fault.Number (within 1 most (number_of (unescaped word))) n e)

pub number_back : (most n : ℕ) → 1 ≤ n → n ≤ most → n < 2 ^ 64 → number_word most (decimal n) ≡ Ok n
unfolding number_word
number_back most n low high small =
    ap (λ o. or_fault fault.Number (within 1 most o)) (decimal_read n small) ∙ ap (or_fault fault.Number) (within_back 1 most n low high)

-- PATHS
pub path_word_is : (word : List ℕ) (path : Path) → AreBytes word → path_word word ≡ Ok path → IsPath path.names
unfolding path_word
path_word_is word path all e = path_is (unescaped word) path (unescaped_bytes word all) (found fault.Path (path_of (unescaped word)) path e)

pub path_word_back : (path : Path) → IsPath path.names → path_word (path_text path) ≡ Ok path
unfolding path_word
path_word_back path is =
    ap (λ l. or_fault fault.Path (path_of (unescaped l))) (path_escaped path.names)
    ∙ ap (λ l. or_fault fault.Path (path_of l)) (unescaped_back (plain_path path.names) (plain_bytes path.names is.bytes))
    ∙ ap (or_fault fault.Path) (path_back path.names is)

pub path_text_word : (path : Path) → IsPath path.names → IsWord (path_text path)
path_text_word path is = subst IsWord (sym (path_escaped path.names)) (path_is_word path.names is)

-- CONTENTS
pub content_word_is : (word : List ℕ) (content : Filling) → AreBytes word → content_word word ≡ Ok content → HasBytes content
unfolding content_word
content_word_is word content all e =
    content_is (unescaped word) content (unescaped_bytes word all) (found fault.Content (content_of (unescaped word)) content e)

content_escaped : (bytes : List ℕ) → 61 ∷ escaped bytes ≡ escaped (61 ∷ bytes)
content_escaped bytes = sym (flat_map-cons escape_text 61 bytes)

pub content_word_back : (content : Filling) → HasBytes content → content_word (content_text content) ≡ Ok content
unfolding content_word
content_word_back (Given bytes) all =
    ap (λ l. or_fault fault.Content (content_of (unescaped l))) (content_escaped bytes)
    ∙ ap (λ l. or_fault fault.Content (content_of l)) (unescaped_back (61 ∷ bytes) (omega arith, all))
content_word_back (Repeat count byte) (small, few) =
    ap (λ l. or_fault fault.Content (content_of l)) (unescaped_repeat count byte small few)
    ∙ ap (or_fault fault.Content) (repeated_back count byte small few)

pub content_text_word : (content : Filling) → HasBytes content → IsWord (content_text content)
content_text_word (Given bytes) all =
    record { some = omega arith; graphic = subst (AllByRecursion IsGraphic) (sym (content_escaped bytes)) (escaped_graphic (61 ∷ bytes) (omega arith, all)) }
content_text_word (Repeat count byte) (small, few) = record { some = omega arith; graphic = repeat_graphic count byte small few }

-- WORDS OF THE TABLE
abbrev pub are_graphic : List ℕ → Bool
are_graphic [] = true
are_graphic (b ∷ word) = nat_le 33 b && (nat_le b 126 && are_graphic word)

graphic_told : (word : List ℕ) → are_graphic word ≡ true → AllByRecursion IsGraphic word
graphic_told [] e = tt
graphic_told (b ∷ word) e =
    elim (nat_le 33 b) as (λ t. nat_le 33 b ≡ t → ◌&&◌ t (nat_le b 126 && are_graphic word) ≡ true → IsGraphic b × AllByRecursion IsGraphic word) [
      | true ↦ λ low h. elim (nat_le b 126) as (λ t. nat_le b 126 ≡ t → ◌&&◌ t (are_graphic word) ≡ true → IsGraphic b × AllByRecursion IsGraphic word) [
        | true ↦ λ high g. ((grind (arith, nat_tests), grind (arith, nat_tests)), graphic_told word g)
        | false ↦ λ high g. absurd cc
      ] refl h
      | false ↦ λ low h. absurd cc
    ] refl e

pub literal : (b : ℕ) (word : List ℕ) → are_graphic (b ∷ word) ≡ true → IsWord (b ∷ word)
literal b word e = record { some = omega arith; graphic = graphic_told (b ∷ word) e }

pub switch_back : (on : Bool) → switch_word (switch_text on) ≡ Ok on
unfolding switch_word
switch_back true = refl
switch_back false = refl

pub switch_text_word : (on : Bool) → IsWord (switch_text on)
switch_text_word true = literal 111 (110 ∷ []) refl
switch_text_word false = literal 111 (102 ∷ 102 ∷ []) refl

pub order_is : (word : List ℕ) (reverse : Bool) → order_word word ≡ Ok reverse → reverse ≡ true
unfolding order_word
order_is word reverse e =
    elim (bytes_eq (unescaped word) (codes "reverse")) as (λ t. cond t (Ok true) (Err fault.Order) ≡ Ok reverse → reverse ≡ true) [
      | true ↦ λ h. cc
      | false ↦ λ h. absurd cc
    ] e

pub order_back : order_word (codes "reverse") ≡ Ok true
unfolding order_word
order_back = refl
