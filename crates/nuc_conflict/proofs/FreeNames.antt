-- Among one candidate more than there are nodes, one has a place that nobody has.
use Rattle.std.proofs.Common.{◌≡◌, ◌<◌, ◌≤◌, ◌+◌, ◌^◌, ℕ, zero, suc, List, [], ◌∷◌, ◌++◌, length, map, Option, Some, None, sym, ap, subst, ◌∙◌, inl, inr, arith}
use Rattle.std.specs.Prelude.{slice_get}
use Rattle.std.specs.List.{All}
use Rattle.std.specs.FinMap.{get, keys, len, entries, len-entries}
use Rattle.std.proofs.lemmas.List.{length-map, length-append}
use Rattle.nuc_base.specs.Candidates.{candidate}
use Rattle.nuc_base.specs.SamePlace.{SameName, same_name-sym}
use Rattle.nuc_base.specs.Trees.{Nodes, IsVacant}
use Rattle.nuc_base.specs.declared.node.Node.{Node}
use Rattle.nuc_base.proofs.Differ.{free_candidate}
use Rattle.nuc_base.proofs.Maps.{same_or_not}
use Rattle.nuc_base.proofs.Order.{nth_of}
use Rattle.nuc_conflict.specs.FreeName.{place_of, IsUnused}

name_of : Option Node → List ℕ
name_of None = []
name_of (Some n) = n.place.name

-- the names of a tree
names : Nodes → List (List ℕ)
names m = map (λ x. name_of (get m x)) (keys m)

names_long : (m : Nodes) → length (names m) ≡ len m
unfolding names
names_long m =
    let names_len = length-map (keys m) (λ x. name_of (get m x)) in
    let keys_len = length-map (entries m) (λ e. e.0) in
    omega (arith, names_len, keys_len, len-entries m)

at_position : (f : ℕ → List ℕ) (P : List ℕ → Type 0) (xs : List ℕ) (i x : ℕ) → slice_get xs i ≡ Some x → All P (map f xs) → P (f x)
at_position f P [] i x e all = absurd (let no : None ≡ Some x = e in cc)
at_position f P (y ∷ xs) zero x e all = let one : Some y ≡ Some x = e in let same : y ≡ x = cc in subst (λ z. P (f z)) same (all zero [] (omega arith))
at_position f P (y ∷ xs) (suc i) x e all = at_position f P xs i x e (λ k d lt. all (suc k) d (omega arith))

all_left : (P : List ℕ → Type 0) (xs ys : List (List ℕ)) → All P (xs ++ ys) → All P xs
all_left P [] ys all k d lt = absurd (omega (arith, lt))
all_left P (x ∷ xs) ys all zero d lt = all zero d (omega arith)
all_left P (x ∷ xs) ys all (suc k) d lt = all_left P xs ys (λ j e l. all (suc j) e (omega (arith, l))) k d (omega (arith, lt))

all_right : (P : List ℕ → Type 0) (xs ys : List (List ℕ)) → All P (xs ++ ys) → All P ys
all_right P [] ys all = all
all_right P (x ∷ xs) ys all = all_right P xs ys (λ j e l. all (suc j) e (omega (arith, l)))

-- a name that is none of the tree's is free everywhere in it
free_in : (m : Nodes) (parent : ℕ) (name : List ℕ) → All (λ t. ¬ (SameName name t)) (names m) → IsVacant m (place_of parent name)
unfolding names name_of
free_in m parent name other x n e same =
    let at = nth_of m x (n, e) in
    let apart : ¬ (SameName name (name_of (get m x))) = at_position (λ y. name_of (get m y)) (λ t. ¬ (SameName name t)) (keys m) at.0 x at.2 other in
    subst (λ o. ¬ (SameName name (name_of o))) e apart (same_name-sym n.place.name name same.name)

-- so one of so many candidates is unused
pub one_unused : (r l s : Nodes) (parent : ℕ) (name : List ℕ) (most : ℕ) → most ≡ len r + len l + len s + 1 → most < 2 ^ 64
    → (k : ℕ) × (0 < k) × (k ≤ most) × IsUnused r l s (place_of parent (candidate name k))
one_unused r l s parent name most is small =
    let taken = names r ++ (names l ++ names s) in
    let few : length taken ≡ len r + (len l + len s) =
    length-append (names r) (names l ++ names s) ∙ ap (λ k. length (names r) + k) (length-append (names l) (names s))
    ∙ ap (λ k. k + (length (names l) + length (names s))) (names_long r) ∙ ap (λ k. len r + (k + length (names s))) (names_long l)
    ∙ ap (λ k. len r + (len l + k)) (names_long s) in
    let free = free_candidate name taken (omega (arith, few, is, small)) in
    let P : List ℕ → Type 0 = λ t. ¬ (SameName (candidate name free.0) t) in
    let rest = all_right P (names r) (names l ++ names s) free.3 in (
      free.0,
      free.1,
      (let bound = free.2 in omega (arith, bound, few, is)),
      record {
        remote = free_in r parent (candidate name free.0) (all_left P (names r) (names l ++ names s) free.3);
        local = free_in l parent (candidate name free.0) (all_left P (names l) (names s) rest);
        synced = free_in s parent (candidate name free.0) (all_right P (names l) (names s) rest);
      },
    )

-- one more candidate that is taken
pub still_taken : (r l s : Nodes) (parent : ℕ) (name : List ℕ) (tried : ℕ) (copy : List ℕ) → copy ≡ candidate name (tried + 1)
    → ¬ (IsUnused r l s (place_of parent copy))
    → ((k : ℕ) → 0 < k → k ≤ tried → ¬ (IsUnused r l s (place_of parent (candidate name k))))
    → (k : ℕ) → 0 < k → k ≤ tried + 1 → ¬ (IsUnused r l s (place_of parent (candidate name k)))
still_taken r l s parent name tried copy is taken before k some below unused = elim (same_or_not k (tried + 1)) [
  | inl last ↦
      let same : candidate name k ≡ copy = ap (candidate name) last ∙ sym is in
      taken (subst (λ n. IsUnused r l s (place_of parent n)) same unused)
  | inr apart ↦ before k some (omega (arith, below, apart)) unused
]
