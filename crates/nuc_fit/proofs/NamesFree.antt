-- A free name is a name, where identities aren't too many: it is one of the first candidates.
use Rattle.std.specs.Prelude.{All}
use Rattle.std.proofs.Common.{◌≡◌, ◌<◌, ◌+◌, ◌^◌, ◌++◌, ℕ, zero, suc, List, [], ◌∷◌, length, Option, Some, None, refl, sym, ap, subst, ◌∙◌, inl, inr, arith}
use Rattle.std.proofs.lemmas.Bool.{cases_lt}
use Rattle.std.proofs.lemmas.List.{length-append}
use Rattle.std.specs.FinMap.{get}
use Rattle.nuc_base.specs.Candidates.{candidate}
use Rattle.nuc_base.specs.Names.{IsName}
use Rattle.nuc_base.specs.SamePlace.{SameName, same_name-sym}
use Rattle.nuc_base.specs.Trees.{IsVacant, Nodes}
use Rattle.nuc_base.specs.declared.node.Node.{Node}
use Rattle.nuc_base.proofs.Candidates.{candidate-is_name}
use Rattle.nuc_base.proofs.Differ.{free_candidate}
use Rattle.nuc_base.proofs.Maps.{same_or_not}
use Rattle.nuc_conflict.specs.FitTogether.{IsBelow}
use Rattle.nuc_conflict.specs.FreeName.{IsFreeName, IsUnused, place_of}

name_of : Option Node → List ℕ
name_of None = []
name_of (Some n) = n.place.name

-- the names that a tree has at the identities below n
names : Nodes → ℕ → List (List ℕ)
names m zero = []
names m (suc x) = name_of (get m x) ∷ names m x

names_long : (m : Nodes) (n : ℕ) → length (names m n) ≡ n
unfolding names
names_long m zero = refl
names_long m (suc x) = ap suc (names_long m x)

-- what holds of them holds of each
name_at : (P : List ℕ → Type 0) (m : Nodes) (n x : ℕ) → x < n → All P (names m n) → P (name_of (get m x))
unfolding names
name_at P m zero x below all = absurd (omega (arith, below))
name_at P m (suc k) x below all = elim (same_or_not x k) [
  | inl same ↦ subst (λ y. P (name_of (get m y))) (sym same) (all 0 [] (omega arith))
  | inr apart ↦ name_at P m k x (omega (arith, below, apart)) (λ j d within. all (suc j) d (omega (arith, within)))
]

all_left : (P : List ℕ → Type 0) (xs ys : List (List ℕ)) → All P (xs ++ ys) → All P xs
all_left P [] ys all k d within = absurd (omega (arith, within))
all_left P (x ∷ xs) ys all zero d within = all zero d (omega arith)
all_left P (x ∷ xs) ys all (suc k) d within = all_left P xs ys (λ j e later. all (suc j) e (omega (arith, later))) k d (omega (arith, within))

all_right : (P : List ℕ → Type 0) (xs ys : List (List ℕ)) → All P (xs ++ ys) → All P ys
all_right P [] ys all = all
all_right P (x ∷ xs) ys all = all_right P xs ys (λ j e later. all (suc j) e (omega (arith, later)))

-- a name that is none of them is free everywhere in the tree
free_in : (m : Nodes) (n parent : ℕ) (name : List ℕ) → IsBelow m n → All (λ t. ¬ (SameName name t)) (names m n) → IsVacant m (place_of parent name)
unfolding name_of
free_in m n parent name below other x h at same =
    let apart : ¬ (SameName name (name_of (get m x))) = name_at (λ t. ¬ (SameName name t)) m n x (below x h at) other in
    subst (λ o. ¬ (SameName name (name_of o))) at apart (same_name-sym h.place.name name same.name)

-- ONE OF SO MANY CANDIDATES is unused, so the first that is has no greater number
module _ (r l s : Nodes) (next : ℕ) (in_r : IsBelow r next) (in_l : IsBelow l next) (in_s : IsBelow s next) (few : next + (next + next) + 1 < 2 ^ 64) where
  taken : List (List ℕ)
  taken = names r next ++ (names l next ++ names s next)

  taken_long : length taken ≡ next + (next + next)
  unfolding taken
  taken_long = length-append (names r next) (names l next ++ names s next) ∙ ap (λ k. length (names r next) + k) (length-append (names l next) (names s next))
      ∙ ap (λ k. k + (length (names l next) + length (names s next))) (names_long r next)
      ∙ ap (λ k. next + (k + length (names s next))) (names_long l next) ∙ ap (λ k. next + (next + k)) (names_long s next)

  unused_at : (parent : ℕ) (name : List ℕ) → All (λ t. ¬ (SameName name t)) taken → IsUnused r l s (place_of parent name)
  unfolding taken
  unused_at parent name other =
      let P : List ℕ → Type 0 = λ t. ¬ (SameName name t) in
      let rest = all_right P (names r next) (names l next ++ names s next) other in
      record {
        remote = free_in r next parent name in_r (all_left P (names r next) (names l next ++ names s next) other);
        local = free_in l next parent name in_l (all_left P (names l next) (names s next) rest);
        synced = free_in s next parent name in_s (all_right P (names l next) (names s next) rest);
      }

  few_tried : (parent : ℕ) (name free : List ℕ) (first : IsFreeName r l s parent name free) → first.number < 2 ^ 64
  few_tried parent name free first =
      let long = taken_long in
      let one = free_candidate name taken (omega (arith, few, long)) in
      let most = one.2 in
      elim (cases_lt one.0 first.number) [
        | inl less ↦ absurd (first.first one.0 one.1 less (unused_at parent (candidate name one.0) one.3))
        | inr no_less ↦ omega (arith, no_less, most, few, long)
      ]

  pub free_is_name : (parent : ℕ) (name free : List ℕ) → IsName name → IsFreeName r l s parent name free → IsName free
  free_is_name parent name free its first =
      subst IsName (sym first.is) (candidate-is_name name first.number its (few_tried parent name free first))
