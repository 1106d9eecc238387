-- The two look-ups of bindings that are apart.
use Rattle.std.proofs.Common.{◌≡◌, ◌≢◌, ◌<◌, ℕ, suc, None, Some, List, [], ◌∷◌, map, length, refl, sym, ap, subst, ◌∙◌, inl, inr, arith, get_or, All, AllPairs}
use Rattle.std.proofs.lemmas.List.{get_or-map}
use Rattle.std.proofs.lemmas.List.Elements.{All-tail}
use Rattle.std.specs.FinMap.{get, insert, from_entries, get-empty}
use Rattle.std.specs.Ordering.{nat_cmp}
use Rattle.nuc_lookup.specs.Rows.{AreApart as RowsApart, numbers_in, pairs, without}
use Rattle.nuc_observe.specs.Keys.{AreApart, AreBindings, AreKeys, key_map, row_by_id, row_by_key}
use Rattle.nuc_observe.specs.Inverse.{AreInverse}
use Rattle.nuc_observe.specs.declared.binding.Binding.{Binding}
use Rattle.nuc_lookup.specs.declared.row.Row.{Row}
use Rattle.nuc_observe.proofs.Inverse.{nobody, put_inverse}
use Rattle.nuc_lookup.proofs.Maps.{same_or_not, get_put_same, get_put_other, one_number, not_both}

-- THE ROWS
length_map : {A B : Type 0} (f : A → B) (xs : List A) → length (map f xs) ≡ length xs
length_map f [] = refl
length_map f (x ∷ xs) = ap suc (length_map f xs)

apart_rows : (row : Binding → Row) (back : Row → Binding) → ((r : Row) → row (back r) ≡ r) → (bs : List Binding)
    → AllPairs (λ a b. (row a).from ≢ (row b).from) bs → RowsApart (map row bs)
apart_rows row back again bs apart i j d lt within same =
    let long = length_map row bs in
    let at : (k : ℕ) → k < length bs → get_or (map row bs) k d ≡ row (get_or bs k (back d)) =
    λ k in_k. ap (get_or (map row bs) k) (sym (again d)) ∙ get_or-map row bs k (back d) (row (back d)) in_k in
    apart i j (back d) lt (omega arith)
    (ap (λ r. r.from) (sym (at i (omega arith))) ∙ same ∙ ap (λ r. r.from) (at j (omega arith)))

pub ids_apart : (bs : List Binding) → AreApart bs → RowsApart (map row_by_id bs)
ids_apart bs apart = apart_rows row_by_id (λ r. record { id = record { 0 = r.from }; key = record { 0 = r.to } }) (λ r. refl) bs apart.ids

pub keys_apart : (bs : List Binding) → AreApart bs → RowsApart (map row_by_key bs)
keys_apart bs apart = apart_rows row_by_key (λ r. record { id = record { 0 = r.to }; key = record { 0 = r.from } }) (λ r. refl) bs apart.keys

ids_pairs : (bs : List Binding) → pairs (map row_by_id bs) ≡ map (λ b. (b.id.0, b.key.0)) bs
ids_pairs [] = refl
ids_pairs (b ∷ bs) = ap (λ es. (b.id.0, b.key.0) ∷ es) (ids_pairs bs)

pub ids_are : (bs : List Binding) → numbers_in (map row_by_id bs) ≡ key_map bs
ids_are bs = ap from_entries (ids_pairs bs)

-- THEY LEAD BACK TO EACH OTHER
no_id : (x : ℕ) (bs : List Binding) → All (λ b. x ≢ b.id.0) bs → get (numbers_in (map row_by_id bs)) x ≡ None
no_id x [] other = get-empty nat_cmp x
no_id x (b ∷ bs) other =
    get_put_other (numbers_in (map row_by_id bs)) b.id.0 b.key.0 x (other 0 b (omega arith))
    ∙ no_id x bs (All-tail (λ (c : Binding). x ≢ c.id.0) b bs other)

no_key : (k : ℕ) (bs : List Binding) → All (λ b. k ≢ b.key.0) bs → (y : ℕ) → get (numbers_in (map row_by_id bs)) y ≢ Some k
no_key k [] other y at = not_both _ k (get-empty nat_cmp y) at
no_key k (b ∷ bs) other y at = elim (same_or_not y b.id.0) [
  | inl same ↦
      let m = numbers_in (map row_by_id bs) in
      other 0 b (omega arith) (one_number _ k b.key.0 (subst (λ z. get (insert m b.id.0 b.key.0) z ≡ Some k) same at) (get_put_same m b.id.0 b.key.0))
  | inr apart ↦
      no_key k bs (All-tail (λ (c : Binding). k ≢ c.key.0) b bs other) y (sym (get_put_other (numbers_in (map row_by_id bs)) b.id.0 b.key.0 y apart) ∙ at)
]

tail_apart : (b : Binding) (bs : List Binding) → AreApart (b ∷ bs) → AreApart bs
tail_apart b bs apart = record {
  ids = λ i j d lt within. apart.ids (suc i) (suc j) d (omega arith) (omega arith);
  keys = λ i j d lt within. apart.keys (suc i) (suc j) d (omega arith) (omega arith);
}

pub bound_inverse : (bs : List Binding) → AreApart bs → AreInverse (numbers_in (map row_by_id bs)) (numbers_in (map row_by_key bs))
bound_inverse [] apart = nobody _ _ refl refl
bound_inverse (b ∷ bs) apart =
    let ids = numbers_in (map row_by_id bs) in
    let keys = numbers_in (map row_by_key bs) in
    let new : get ids b.id.0 ≡ None = no_id b.id.0 bs (λ j d lt. apart.ids 0 (suc j) d (omega arith) (omega arith)) in
    let unheld = no_key b.key.0 bs (λ j d lt. apart.keys 0 (suc j) d (omega arith) (omega arith)) in
    subst (λ o. AreInverse (insert ids b.id.0 b.key.0) (insert (without keys o) b.key.0 b.id.0)) new
    (put_inverse ids keys (bound_inverse bs (tail_apart b bs apart)) b.id.0 b.key.0 (λ y at. absurd (unheld y at)))

-- THEY ARE KEYS
no_zero_id : (bs : List Binding) → All (λ b. 0 < b.id.0) bs → get (key_map bs) 0 ≡ None
no_zero_id bs above = ap (λ m. get m 0) (sym (ids_are bs)) ∙ no_id 0 bs (λ j d lt same. let up = above j d lt in absurd (omega arith))

pub bound_keys : (bs : List Binding) → AreBindings bs → AreKeys (key_map bs)
bound_keys bs are =
    let inverse = bound_inverse bs are.apart in
    let ids : (x k : ℕ) → get (key_map bs) x ≡ Some k → get (numbers_in (map row_by_id bs)) x ≡ Some k = λ x k at. ap (λ m. get m x) (ids_are bs) ∙ at in
    record {
      no_root = no_zero_id bs are.ids;
      no_zero = λ x at. no_key 0 bs (λ j d lt same. let up = are.keys j d lt in absurd (omega arith)) x (ids x 0 at);
      one_to_one = λ x y k at also. one_number _ x y (inverse.there x k (ids x k at)) (inverse.there y k (ids y k also));
    }
