-- What the rows of a look-up say of the map that they stand for.
use Rattle.std.proofs.Common.{◌≡◌, ◌<◌, ◌≤◌, ℕ, suc, Bool, true, false, List, [], ◌∷◌, length, get_or, set, Some, None, refl, sym, ap, subst, ◌∙◌, inl, inr, arith}
use Rattle.std.specs.Prelude.{T, ◌&&◌}
use Rattle.std.specs.List.{insert, remove}
use Rattle.std.specs.FinMap as map
use Rattle.std.specs.FinMap.{find, is_sorted, get-from_sorted, get-from_entries, get-empty, entries-from_sorted, len-entries}
use Rattle.std.proofs.lemmas.Cmp.{nat_cmp_total}
use Rattle.std.specs.FinMap.Entries.{below_all}
use Rattle.std.specs.Ordering.{nat_cmp, is_lt}
use Rattle.std.specs.declared.cmp.Ordering.TheVariants.{Less}
use Rattle.std.specs.Cmp.{nat_cmp_is}
use Rattle.std.specs.List.Sorted.{IsPermutation}
use Rattle.nuc_lookup.specs.Rows.{Numbers, pairs, numbers_of, numbers_in, AreApart, IsBelow, IsRising, IsFound, IsGap}
use Rattle.nuc_lookup.specs.declared.row.Row.{Row}
use Rattle.nuc_lookup.proofs.Maps.{same_or_not, same_numbers, get_put_same, get_put_other, get_cut_same, get_cut_other, len_put_new}
use Rattle.nuc_lookup.proofs.Rows.{row_of, find_found, find_gap, rising_set, rising_insert, rising_remove, find_set_same, find_set_other, find_insert_same, find_insert_other, find_remove_same, find_remove_other}
use Rattle.nuc_lookup.proofs.Sorting.{sorted_says}

both : (a b : Bool) → T a → T b → T (a && b)
both true b p q = q
both false b p q = absurd p

less : (x y : ℕ) → x < y → T (is_lt (nat_cmp x y))
less x y lt = subst (λ o. T (is_lt o)) (nat_cmp_is x y Less lt) tt

below : (x : ℕ) (es : List Row) → IsBelow x es → T (below_all nat_cmp x (pairs es))
below x [] b = tt
below x (e ∷ es) b = both _ _ (less x e.from b.0) (below x es b.1)

sorted : (es : List Row) → IsRising es → T (is_sorted nat_cmp (pairs es))
sorted [] r = tt
sorted (e ∷ es) r = both _ _ (below e.from es r.0) (sorted es r.1)

get_of : (es : List Row) → IsRising es → (x : ℕ) → map.get (numbers_of es) x ≡ find nat_cmp x (pairs es)
get_of es r x = get-from_sorted nat_cmp (pairs es) x (sorted es r)

pub nowhere : numbers_of [] ≡ map.empty
nowhere = same_numbers _ _ (λ x. get_of [] tt x ∙ sym (get-empty nat_cmp x))

-- rows that were sorted say the same
pub sorted_is : (xs ys : List Row) → IsPermutation xs ys → AreApart xs → IsRising ys → numbers_of ys ≡ numbers_in xs
sorted_is xs ys moved apart rises =
    same_numbers _ _ (λ q. get_of ys rises q ∙ sorted_says xs ys moved apart q ∙ sym (get-from_entries nat_cmp_total (pairs xs) q))

length_pairs : (es : List Row) → length (pairs es) ≡ length es
length_pairs [] = refl
length_pairs (e ∷ es) = ap suc (length_pairs es)

-- the rows of a look-up, as a slice, as the items of its `Vec`, and as the map that callers see
module _ (s items : List Row) (ns : Numbers) (same : s ≡ items) (view : numbers_of items ≡ ns) (rising : IsRising items) where
  got : (x : ℕ) → map.get ns x ≡ find nat_cmp x (pairs items)
  got x = ap (λ m. map.get m x) (sym view) ∙ get_of items rising x

  entries_are : map.entries ns ≡ pairs items
  entries_are = ap map.entries (sym view) ∙ entries-from_sorted nat_cmp (pairs items) (sorted items rising)

  pub present : (x i : ℕ) (d : Row) → IsFound x s i → map.get ns x ≡ Some (get_or items i d).to
  present x i d f = got x ∙ find_found x items i d (subst (λ l. IsFound x l i) same f)

  pub absent : (x i : ℕ) → IsGap x s i → map.get ns x ≡ None
  absent x i g = got x ∙ find_gap x items i rising (subst (λ l. IsGap x l i) same g)

  pub len_is : map.len ns ≡ length items
  len_is = len-entries ns ∙ ap length entries_are ∙ length_pairs items

  -- there is room for the row of a new number
  pub room_for : (x n i room many : ℕ) → IsGap x s i → map.len (map.insert ns x n) ≤ room → many ≡ length items → many < room
  room_for x n i room many g fits is = omega (arith, len_is, len_put_new ns x n (absent x i g), is)

  pub set_rises : (x n i : ℕ) → IsFound x s i → IsRising (set items i (row_of x n))
  set_rises x n i f = rising_set x n items i rising (subst (λ l. IsFound x l i) same f)

  pub insert_rises : (x n i : ℕ) → IsGap x s i → IsRising (insert items i (row_of x n))
  insert_rises x n i g = rising_insert x n items i rising (subst (λ l. IsGap x l i) same g)

  pub set_is : (x n i : ℕ) → IsFound x s i → numbers_of (set items i (row_of x n)) ≡ map.insert ns x n
  set_is x n i f =
      let found = subst (λ l. IsFound x l i) same f in
      same_numbers _ _ (λ q. get_of _ (rising_set x n items i rising found) q ∙ elim (same_or_not q x) [
        | inl e ↦ rw e (find_set_same x n items i found ∙ sym (get_put_same ns x n))
        | inr apart ↦ find_set_other x n items i q found apart ∙ sym (got q) ∙ sym (get_put_other ns x n q apart)
      ])

  pub insert_is : (x n i : ℕ) → IsGap x s i → numbers_of (insert items i (row_of x n)) ≡ map.insert ns x n
  insert_is x n i g =
      let gap = subst (λ l. IsGap x l i) same g in
      same_numbers _ _ (λ q. get_of _ (rising_insert x n items i rising gap) q ∙ elim (same_or_not q x) [
        | inl e ↦ rw e (find_insert_same x n items i gap ∙ sym (get_put_same ns x n))
        | inr apart ↦ find_insert_other x n items i q apart ∙ sym (got q) ∙ sym (get_put_other ns x n q apart)
      ])

  pub remove_is : (x i : ℕ) → IsFound x s i → numbers_of (remove items i) ≡ map.remove ns x
  remove_is x i f =
      let found = subst (λ l. IsFound x l i) same f in
      same_numbers _ _ (λ q. get_of _ (rising_remove items i rising) q ∙ elim (same_or_not q x) [
        | inl e ↦ rw e (find_remove_same x items i rising found ∙ sym (get_cut_same ns x))
        | inr apart ↦ find_remove_other x items i q found apart ∙ sym (got q) ∙ sym (get_cut_other ns x q apart)
      ])

  -- a number that has no row is cut already
  pub remove_gap : (x i : ℕ) → IsGap x s i → ns ≡ map.remove ns x
  remove_gap x i g = same_numbers _ _ (λ q. elim (same_or_not q x) [
    | inl e ↦ rw e (absent x i g ∙ sym (get_cut_same ns x))
    | inr apart ↦ sym (get_cut_other ns x q apart)
  ])
