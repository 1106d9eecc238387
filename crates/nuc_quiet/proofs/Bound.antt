-- Each item's identity has the item's key, in the keys that a scan gives.
use Rattle.std.specs.Prelude.{AllPairs, Contains, cond, map, unwrap_or}
use Rattle.std.proofs.Common.{◌≡◌, ◌≢◌, ◌==◌, ℕ, zero, suc, false, List, [], ◌∷◌, Option, Some, None, refl, sym, ◌∙◌, ap, subst, inl, inr, arith}
use Rattle.std.proofs.lemmas.Bool.{eq-eqb}
use Rattle.std.proofs.lemmas.Bool.Decides.{eqb_tells}
use Rattle.std.proofs.lemmas.Cmp.{nat_cmp_total}
use Rattle.std.proofs.lemmas.List.Sorted.{Contains-permutation}
use Rattle.std.specs.Cmp.{unsigned_tied}
use Rattle.std.specs.FinMap.{FinMap, from_entries, get, get-empty, get-insert, insert}
use Rattle.std.specs.Ordering.{nat_cmp}
use Rattle.nuc_base.specs.Trees.{Nodes}
use Rattle.nuc_folder.specs.declared.item.Item.{Item}
use Rattle.nuc_folder.proofs.OneListing.{Has}
use Rattle.nuc_lookup.specs.Rows.{numbers_in}
use Rattle.nuc_lookup.specs.declared.row.Row.{Row}
use Rattle.nuc_lookup.proofs.Maps as numbers
use Rattle.nuc_observe.specs.Keys.{KeyMap, key_map}
use Rattle.nuc_observe.specs.Listing.{IsGoodListing}
use Rattle.nuc_observe.specs.Observed.{IsInOrderBy, bindings, id_of, identity, identity_rows, listed_ids}
use Rattle.nuc_observe.specs.Turns.{next_after}
use Rattle.nuc_observe.specs.declared.binding.Binding.{Binding}
use Rattle.nuc_observe.proofs.Distinct.{rows_apart}

-- IN A MAP of a list in which no number comes twice each element has its entry
module _ {V : Type 0} (m : FinMap nat_cmp V) (k : ℕ) (v : V) where
  put_same : get (insert m k v) k ≡ Some v
  put_same = get-insert nat_cmp_total m k v k ∙ ap (λ t. cond t (Some v) (get m k)) (unsigned_tied k k ∙ eq-eqb k k refl)

  not_same : (q : ℕ) → q ≢ k → (q == k) ≡ false
  not_same q other = elim (eqb_tells q k) [ inl (t, e) ↦ absurd (other e) | inr (t, e) ↦ t ]

  put_other : (q : ℕ) → q ≢ k → get (insert m k v) q ≡ get m q
  put_other q other = get-insert nat_cmp_total m k v q ∙ ap (λ t. cond t (Some v) (get m q)) (unsigned_tied q k ∙ not_same q other)

module _ {A V : Type 0} (f : A → ℕ) (g : A → V) where
  abbrev entered : List A → FinMap nat_cmp V
  entered xs = from_entries (map (λ a. (f a, g a)) xs)

  stands : (xs : List A) → AllPairs (λ a b. f a ≢ f b) xs → (a : A) → Contains xs a → get (entered xs) (f a) ≡ Some (g a)
  stands [] apart a (i, within, at) = absurd (omega (arith, within))
  stands (x ∷ xs) apart a (zero, within, at) = subst (λ (h : A). get (entered (x ∷ xs)) (f h) ≡ Some (g h)) at (put_same (entered xs) (f x) (g x))
  stands (x ∷ xs) apart a (suc i, within, at) =
      let off : f x ≢ f a = subst (λ (h : A). f x ≢ f h) at (apart 0 (suc i) a (omega arith) within) in
      put_other (entered xs) (f x) (g x) (f a) (λ same. off (sym same))
      ∙ stands xs (λ p q d lt inside. apart (suc p) (suc q) d (omega (arith, lt)) (omega (arith, inside))) a (i, omega (arith, within), at)

has_map : {A B : Type 0} (f : A → B) (xs : List A) (a : A) → Contains xs a → Contains (map f xs) (f a)
has_map f [] a (k, within, at) = absurd (omega (arith, within))
has_map f (x ∷ xs) a (zero, within, at) = (0, omega arith, ap f at)
has_map f (x ∷ xs) a (suc k, within, at) =
    let (i, less, is) = has_map f xs a (k, omega (arith, within), at) in
    (suc i, omega (arith, less), is)

-- THE ROWS
row_of : (keys : KeyMap) (next : ℕ) (items : List Item) (item : Item) → Has items item
    → (x : ℕ) × Contains (identity_rows keys next items) (record { from = item.key.0; to = x })
row_of keys next [] item has = absurd has
row_of keys next (i ∷ items) item (inl same) =
    subst (λ (j : Item). (x : ℕ) × Contains (identity_rows keys next (i ∷ items)) (record { from = j.key.0; to = x })) same
    (unwrap_or (id_of keys i.key.0) next, (0, omega arith, refl))
row_of keys next (i ∷ items) item (inr has) =
    let (x, (k, within, at)) = row_of keys (next_after (id_of keys i.key.0) next) items item has in
    (x, (suc k, omega (arith, within), at))

from_item : (keys : KeyMap) (k next : ℕ) (items : List Item) (y : ℕ) → get (numbers_in (identity_rows keys next items)) k ≡ Some y
    → (i : Item) × Has items i × (i.key.0 ≡ k)
from_item keys k next [] y at = absurd (numbers.not_both (get (numbers_in []) k) y (get-empty nat_cmp k) at)
from_item keys k next (item ∷ items) y at =
    let to = unwrap_or (id_of keys item.key.0) next in
    let rest = numbers_in (identity_rows keys (next_after (id_of keys item.key.0) next) items) in
    elim (numbers.same_or_not k item.key.0) [
      | inl same ↦ (item, inl refl, sym same)
      | inr apart ↦ (let later = sym (numbers.get_put_other rest item.key.0 to k apart) ∙ at in
          let row = from_item keys k (next_after (id_of keys item.key.0) next) items y later in
          (row.0, inr row.1, row.2))
    ]

module _ (keys : KeyMap) (l : Nodes) (next : ℕ) (items : List Item) (good : IsGoodListing keys l items) where
  unlisted_by : (k : ℕ) → ((i : Item) → Has items i → i.key.0 ≢ k) → (o : Option ℕ) → get (listed_ids keys next items) k ≡ o
      → identity (listed_ids keys next items) k ≡ 0
  unlisted_by k never None is = ap (λ o. unwrap_or o 0) is
  unlisted_by k never (Some y) is = let row = from_item keys k next items y is in absurd (never row.0 row.1 row.2)

  -- a key that isn't listed has no identity but 0
  pub unlisted : (k : ℕ) → ((i : Item) → Has items i → i.key.0 ≢ k) → identity (listed_ids keys next items) k ≡ 0
  unlisted k never = unlisted_by k never (get (listed_ids keys next items) k) refl

  abbrev binding_of : Row → Binding
  binding_of row = record { id = record { 0 = row.to }; key = record { 0 = row.from } }

  -- in every order of the bindings
  pub keyed : (given : List Binding) → IsInOrderBy (λ k. k.id.0) (bindings (identity_rows keys next items)) given → AllPairs (λ a b. a.id.0 ≢ b.id.0) given
      → (i : Item) → Has items i → get (key_map given) (identity (listed_ids keys next items) i.key.0) ≡ Some i.key.0
  keyed given order apart i has =
      let rows = identity_rows keys next items in
      let row = row_of keys next items i has in
      let r : Row = record { from = i.key.0; to = row.0 } in
      let x : identity (listed_ids keys next items) i.key.0 ≡ row.0 =
      ap (λ o. unwrap_or o 0) (stands (λ (h : Row). h.from) (λ (h : Row). h.to) rows (rows_apart keys l next items good) r row.1) in
      let bound : Contains given (binding_of r) = Contains-permutation (bindings rows) given (binding_of r) order.0 (has_map binding_of rows r row.1) in
      ap (get (key_map given)) x ∙ stands (λ (h : Binding). h.id.0) (λ (h : Binding). h.key.0) given apart (binding_of r) bound
