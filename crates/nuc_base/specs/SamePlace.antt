-- When two names are one name among siblings, and two places one place, and how siblings are ordered by their names. The
-- meaning of `SameName` and of `name_order` is sealed here: other proofs use the lemmas below. The last two tie them to bytes,
-- for the proofs of `Name::same` and `Name::order` and for the law of the candidates of a free name alone.
use Rattle.std.specs.Prelude.{◌≡◌, ◌⊎◌, ℕ, Bool, true, false, T, List, MatchBool, refl}
use Rattle.std.specs.Bool.{Decides}
use Rattle.std.specs.Cmp.{IsTotalOrder}
use Rattle.std.specs.Cmp.Lexicographic.{slice_cmp}
use Rattle.std.specs.FinMap.{nat_cmp-IsAntisymmetric, slice_cmp-IsAntisymmetric}
use Rattle.std.specs.Ordering.{nat_cmp}
use Rattle.std.specs.Str.{bytes_eq}
use Rattle.std.specs.declared.cmp.Ordering.{Ordering}
use Rattle.std.specs.declared.cmp.Ordering.TheVariants.{Equal}
use Rattle.std.proofs.Common.{sym, subst, ◌∙◌, inl, inr}
use Rattle.std.proofs.lemmas.Bool.Decides.{eqb_tells}
use Rattle.std.proofs.lemmas.Cmp.{nat_list_cmp_total, tied_itself}
use Rattle.std.proofs.lemmas.Slice.Eq.{bytes_eq-Decides}
use Rattle.nuc_base.specs.declared.node.Place.{Place}

-- today equality of bytes
pub SameName : List ℕ → List ℕ → Type 0
SameName a b = a ≡ b

pub record SamePlace (p q : Place) : Type 0 where
  pub parent : p.parent.0 ≡ q.parent.0
  pub name : SameName p.name q.name

pub same_name-refl : (a : List ℕ) → SameName a a
unfolding SameName
same_name-refl a = refl

pub same_name-sym : (a b : List ℕ) → SameName a b → SameName b a
unfolding SameName
same_name-sym a b s = sym s

pub same_name-trans : (a b c : List ℕ) → SameName a b → SameName b c → SameName a c
unfolding SameName
same_name-trans a b c s t = s ∙ t

pub same_name-or_not : (a b : List ℕ) → SameName a b ⊎ ¬ (SameName a b)
unfolding SameName
same_name-or_not a b =
    let decides = bytes_eq-Decides a b in
    elim (bytes_eq a b) as (λ t. Decides t (a ≡ b) → (a ≡ b) ⊎ ¬ (a ≡ b)) [
      | true ↦ λ d. inl (d.0 refl)
      | false ↦ λ d. inr (λ e. subst T (sym (d.1 e)) tt)
    ] decides

pub same_place-refl : (p : Place) → SamePlace p p
same_place-refl p = record { parent = refl; name = same_name-refl p.name }

pub same_place-sym : (p q : Place) → SamePlace p q → SamePlace q p
same_place-sym p q s = record { parent = sym s.parent; name = same_name-sym _ _ s.name }

pub same_place-trans : (p q r : Place) → SamePlace p q → SamePlace q r → SamePlace p r
same_place-trans p q r s t = record { parent = s.parent ∙ t.parent; name = same_name-trans _ _ _ s.name t.name }

pub same_place-or_not : (p q : Place) → SamePlace p q ⊎ ¬ (SamePlace p q)
same_place-or_not p q = elim (eqb_tells p.parent.0 q.parent.0) [
  | inl (t, parent) ↦ elim (same_name-or_not p.name q.name) [
    | inl name ↦ inl (record { parent = parent; name = name })
    | inr other ↦ inr (λ s. other s.name)
  ]
  | inr (t, apart) ↦ inr (λ s. apart s.parent)
]

-- equal bytes are the same name
pub equal_names-same : (a b : List ℕ) → a ≡ b → SameName a b
unfolding SameName
equal_names-same a b e = e

-- the test of it, for definitions that go by cases
pub is_same_name : List ℕ → List ℕ → Bool
is_same_name a b = bytes_eq a b

told : (r : Bool) (P : Type 0) → Decides r P → MatchBool r P (¬ P)
told true P d = d.0 refl
told false P d = λ p. let e : false ≡ true = d.1 p in cc

pub is_same_name-tells : (a b : List ℕ) → MatchBool (is_same_name a b) (SameName a b) (¬ (SameName a b))
unfolding SameName is_same_name
is_same_name-tells a b = told (bytes_eq a b) (a ≡ b) (bytes_eq-Decides a b)

-- the order of names among siblings, today that of their bytes
pub name_order : List ℕ → List ℕ → Ordering
name_order a b = slice_cmp nat_cmp a b

pub name_order-total : IsTotalOrder name_order
unfolding name_order
name_order-total = nat_list_cmp_total

-- it is `Equal` exactly at one name
pub name_order-same : (a b : List ℕ) → name_order a b ≡ Equal → SameName a b
unfolding name_order SameName
name_order-same a b e = slice_cmp-IsAntisymmetric nat_cmp-IsAntisymmetric a b e

pub same_name-order : (a b : List ℕ) → SameName a b → name_order a b ≡ Equal
unfolding name_order SameName
same_name-order a b s = subst (λ c. slice_cmp nat_cmp a c ≡ Equal) s (tied_itself nat_list_cmp_total a)

-- to bytes
pub same_name-equal : (a b : List ℕ) → SameName a b → a ≡ b
unfolding SameName
same_name-equal a b s = s

pub name_order-bytes : (a b : List ℕ) → slice_cmp nat_cmp a b ≡ name_order a b
unfolding name_order
name_order-bytes a b = refl
