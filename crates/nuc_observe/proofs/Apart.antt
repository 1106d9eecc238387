-- What it means that an item's place is among those that were seen.
use Rattle.std.proofs.Common.{◌≡◌, ◌∙◌, ℕ, Bool, true, false, List, [], ◌∷◌, refl, sym, ap, subst, inl, inr}
use Rattle.std.specs.Prelude.{MatchBool, ◌||◌}
use Rattle.std.specs.Cmp.{unsigned_tied}
use Rattle.std.specs.Ordering.{is_eq, nat_cmp, ordering_then}
use Rattle.std.specs.declared.cmp.Ordering.{Ordering}
use Rattle.std.specs.declared.cmp.Ordering.TheVariants.{Less, Equal, Greater}
use Rattle.std.proofs.lemmas.Bool.Decides.{eqb_tells}
use Rattle.nuc_base.specs.SamePlace.{SameName, name_order, name_order-same, same_name-order, same_name-sym}
use Rattle.nuc_folder.specs.declared.item.Item.{Item}
use Rattle.nuc_observe.specs.Listing.{IsPlacedApart, SameItemPlace}
use Rattle.nuc_observe.specs.Order.{place_order}
use Rattle.nuc_observe.specs.Seen.{is_placed, place_of}

told : (t : Bool) (P : Type 0) → (t ≡ true → P) → (P → t ≡ true) → MatchBool t P (¬ P)
told true P to from = to refl
told false P to from = λ p. let e : false ≡ true = from p in cc

equal : (o : Ordering) → is_eq o ≡ true → o ≡ Equal
equal Less e = let f : false ≡ true = e in cc
equal Equal e = refl
equal Greater e = let f : false ≡ true = e in cc

both : (a b : Ordering) → is_eq (ordering_then a b) ≡ true → (a ≡ Equal) × (b ≡ Equal)
both Less b e = let f : false ≡ true = e in cc
both Equal b e = (refl, equal b e)
both Greater b e = let f : false ≡ true = e in cc

one_number : (x y : ℕ) → nat_cmp x y ≡ Equal → x ≡ y
one_number x y e = elim (eqb_tells x y) [
  | inl (t, same) ↦ same
  | inr (f, apart) ↦ let g : false ≡ true = sym f ∙ sym (unsigned_tied x y) ∙ ap is_eq e in cc
]

level : (x y : ℕ) → x ≡ y → nat_cmp x y ≡ Equal
level x y same = equal _ (unsigned_tied x y ∙ elim (eqb_tells x y) [ inl (t, s) ↦ t | inr (f, apart) ↦ absurd (apart same) ])

same_place : (item other : Item) → is_eq (place_order (place_of item) (place_of other)) ≡ true → SameItemPlace other item
same_place item other e =
    let parts = both (nat_cmp item.parent.0 other.parent.0) (name_order item.name other.name) e in
    (sym (one_number _ _ parts.0), same_name-sym _ _ (name_order-same _ _ parts.1))

place_tested : (item other : Item) → SameItemPlace other item → is_eq (place_order (place_of item) (place_of other)) ≡ true
place_tested item other (parent, name) =
    ap (λ o. is_eq (ordering_then o (name_order item.name other.name))) (level _ _ (sym parent))
    ∙ ap is_eq (same_name-order _ _ (same_name-sym _ _ name))

among : (t rest : Bool) (P Q : Type 0) → MatchBool t P (¬ P) → MatchBool rest (¬ Q) Q → MatchBool (t || rest) (¬ ((¬ P) × Q)) ((¬ P) × Q)
among true rest P Q p q = λ apart. apart.0 p
among false true P Q p q = λ apart. q apart.1
among false false P Q p q = (p, q)

pub placed_tells : (items : List Item) (item : Item) → MatchBool (is_placed items (place_of item)) (¬ (IsPlacedApart items item)) (IsPlacedApart items item)
placed_tells [] item = tt
placed_tells (other ∷ others) item =
    among _ _ (SameItemPlace other item) (IsPlacedApart others item)
    (told _ _ (same_place item other) (place_tested item other)) (placed_tells others item)
