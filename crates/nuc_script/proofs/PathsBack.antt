-- A path, a content and a number that are printed are read again.
use Rattle.std.proofs.Common.{◌≡◌, ℕ, ◌<◌, true, List, [], ◌∷◌, ◌++◌, length, Some, refl, sym, ap, ◌∙◌, arith, length-append}
use Rattle.std.specs.List.{AllByRecursion, flat_map}
use Rattle.std.proofs.lemmas.List.{append-nil}
use Rattle.std.proofs.lemmas.List.Concat.{flat_map-cons, flat_map-append}
use Rattle.nuc_script.specs.Paths.{are_names, names_in, path_with, path_of, pieces}
use Rattle.nuc_script.specs.Text.{escape_text, escaped}
use Rattle.nuc_script.proofs.Cuts.{Lacks, split_at, split_lacks}
use Rattle.nuc_script.proofs.Printed.{IsByte, all_append, escaped_graphic}
use Rattle.nuc_script.proofs.JoinedWords.{IsWord}

-- a path that a script can give: one name or more, of bytes
pub record IsPath (names : List (List ℕ)) : Type 0 where
  pub some : 0 < length names
  pub good : are_names names ≡ true
  pub lacking : AllByRecursion (λ name. Lacks 47 name) names
  pub bytes : AllByRecursion (λ name. AllByRecursion IsByte name) names

-- the names, each after a `/`, with no escape
abbrev pub plain_path : List (List ℕ) → List ℕ
plain_path [] = []
plain_path (name ∷ names) = 47 ∷ name ++ plain_path names

escaped_append : (xs ys : List ℕ) → escaped (xs ++ ys) ≡ escaped xs ++ escaped ys
escaped_append xs ys = flat_map-append escape_text xs ys

pub path_escaped : (names : List (List ℕ)) → flat_map (λ name. 47 ∷ escaped name) names ≡ escaped (plain_path names)
path_escaped [] = refl
path_escaped (name ∷ names) =
    flat_map-cons (λ name. 47 ∷ escaped name) name names ∙ ap (λ l. (47 ∷ escaped name) ++ l) (path_escaped names)
    ∙ sym (flat_map-cons escape_text 47 (name ++ plain_path names) ∙ ap (λ l. 47 ∷ l) (escaped_append name (plain_path names)))

pub plain_bytes : (names : List (List ℕ)) → AllByRecursion (λ name. AllByRecursion IsByte name) names → AllByRecursion IsByte (plain_path names)
plain_bytes [] all = tt
plain_bytes (name ∷ names) (here, later) = (omega arith, all_append IsByte name (plain_path names) here (plain_bytes names later))

-- behind the first `/` stand the names
plain_pieces : (name : List ℕ) (names : List (List ℕ)) → Lacks 47 name → AllByRecursion (λ name. Lacks 47 name) names
    → pieces (name ++ plain_path names) ≡ name ∷ names
plain_pieces name [] lacks all = ap pieces (append-nil name) ∙ split_lacks 47 name lacks
plain_pieces name (next ∷ names) lacks (here, later) = split_at 47 name (next ++ plain_path names) lacks ∙ ap (λ l. name ∷ l) (plain_pieces next names here later)

pub path_back : (names : List (List ℕ)) → IsPath names → path_of (plain_path names) ≡ Some (record { names = names })
path_back [] is = absurd (omega (arith, is.some))
path_back (name ∷ names) is =
    let cut = plain_pieces name names is.lacking.0 is.lacking.1 in
    ap (λ l. path_with (names_in l)) cut ∙ rw is.good refl

escaped_some : (b : ℕ) (bytes : List ℕ) → 0 < length (escape_text b) → 0 < length (escaped (b ∷ bytes))
escaped_some b bytes some = omega (arith, some, ap length (flat_map-cons escape_text b bytes), length-append (escape_text b) (escaped bytes))

pub path_is_word : (names : List (List ℕ)) → IsPath names → IsWord (escaped (plain_path names))
path_is_word [] is = absurd (omega (arith, is.some))
path_is_word (name ∷ names) is = record {
  some = escaped_some 47 (name ++ plain_path names) (omega arith);
  graphic = escaped_graphic (plain_path (name ∷ names)) (plain_bytes (name ∷ names) is.bytes);
}
