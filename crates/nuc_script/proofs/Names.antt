-- The test of names tells what a name is.
use Rattle.std.proofs.Common.{◌≡◌, ℕ, Bool, true, false, cond, ◌==◌, ◌&&◌, List, [], ◌∷◌, ◌++◌, length, Some, None, refl, sym, ap, ◌∙◌, append_assoc, arith}
use Rattle.std.specs.Prelude.{nat_lt}
use Rattle.std.specs.Str.{bytes_eq}
use Rattle.std.proofs.lemmas.Slice.Eq.{bytes_eq-Decides}
use Rattle.std.proofs.lemmas.Bool.Decides.{nat_tests}
use Rattle.nuc_base.specs.Names.{IsName, good_len}
use Rattle.nuc_base.proofs.Names.{name-good_len}
use Rattle.nuc_script.specs.Paths.{is_name, are_names, name_in, names_in}

other_bytes : (b : Bool) (P : Type 0) → (b ≡ true → P) → ¬ P → b ≡ false
other_bytes true P tells not = absurd (not (tells refl))
other_bytes false P tells not = refl

pub name_told : (bytes : List ℕ) → IsName bytes → is_name bytes ≡ true
name_told bytes name =
    let len = name-good_len bytes name in
    let below = name.short in
    let above = name.some in
    let some : (length bytes == 0) ≡ false = grind (arith, nat_tests) in
    let short : nat_lt (length bytes) 256 ≡ true = grind (arith, nat_tests) in
    let good : (good_len bytes == length bytes) ≡ true = grind (arith, nat_tests) in
    let dot : bytes_eq bytes (46 ∷ []) ≡ false = other_bytes _ _ (bytes_eq-Decides bytes (46 ∷ [])).0 name.not_dot in
    let dots : bytes_eq bytes (46 ∷ 46 ∷ []) ≡ false = other_bytes _ _ (bytes_eq-Decides bytes (46 ∷ 46 ∷ [])).0 name.not_dots in
    rw (some, short, good, dot, dots) refl

pub none_named : (piece : List ℕ) → None ≡ name_in piece → is_name piece ≡ false
none_named piece none =
    elim (is_name piece) as (λ t. None ≡ cond t (Some piece) None → t ≡ false) [ true ↦ λ e. absurd cc | false ↦ λ e. refl ] none

pub some_named : (piece name : List ℕ) → Some name ≡ name_in piece → (is_name piece ≡ true) × (name ≡ piece)
some_named piece name some =
    elim (is_name piece) as (λ t. Some name ≡ cond t (Some piece) None → (t ≡ true) × (name ≡ piece)) [ true ↦ λ e. (refl, cc) | false ↦ λ e. absurd cc ] some

names_end : (names : List (List ℕ)) (name : List ℕ) → are_names names ≡ true → is_name name ≡ true → are_names (names ++ name ∷ []) ≡ true
names_end [] name all is = rw is refl
names_end (first ∷ names) name all is =
    elim (is_name first) as (λ t. ◌&&◌ t (are_names names) ≡ true → ◌&&◌ t (are_names (names ++ name ∷ [])) ≡ true) [
      | true ↦ λ e. names_end names name e is
      | false ↦ λ e. absurd cc
    ] all

names_broken : (names : List (List ℕ)) (piece : List ℕ) (later : List (List ℕ)) → is_name piece ≡ false → are_names (names ++ piece ∷ later) ≡ false
names_broken [] piece later not = rw not refl
names_broken (first ∷ names) piece later not =
    elim (is_name first) as (λ t. ◌&&◌ t (are_names (names ++ piece ∷ later)) ≡ false) [ true ↦ names_broken names piece later not | false ↦ refl ]

pub no_names : (names : List (List ℕ)) (piece : List ℕ) (later rest all : List (List ℕ)) → names ++ rest ≡ all → rest ≡ piece ∷ later → None ≡ name_in piece
    → None ≡ names_in all
no_names names piece later rest all so_far cut none =
    let broken = names_broken names piece later (none_named piece none) in
    let whole : all ≡ names ++ piece ∷ later = sym so_far ∙ ap (λ l. names ++ l) cut in
    let false_test : are_names all ≡ false = ap are_names whole ∙ broken in
    rw false_test refl

pub names_more : (names : List (List ℕ)) (piece name : List ℕ) (later rest all : List (List ℕ)) → names ++ rest ≡ all → rest ≡ piece ∷ later → Some name ≡ name_in piece
    → are_names names ≡ true → ((names ++ name ∷ []) ++ later ≡ all) × (are_names (names ++ name ∷ []) ≡ true)
names_more names piece name later rest all so_far cut some good =
    let (is, same) = some_named piece name some in
    let whole : all ≡ names ++ piece ∷ later = sym so_far ∙ ap (λ l. names ++ l) cut in (
      append_assoc names (name ∷ []) later ∙ ap (λ n. names ++ n ∷ later) same ∙ sym whole,
      names_end names name good (ap is_name same ∙ is),
    )
