-- What stands in the cells, position by position.
use Rattle.std.proofs.Common.{◌≡◌, ◌<◌, ◌≤◌, ◌+◌, ◌*◌, ◌/◌, ◌%◌, ℕ, List, ◌++◌, length, get_or, set, take, Some, refl, sym, ap, ap₂, subst, ◌∙◌, inl, inr, arith, length-set, length-append, length-take-le}
use Rattle.std.proofs.lemmas.List.{same_lists, get_or-set_same, get_or-set_other, get_or_append_left, get_or-take, take_all}
use Rattle.std.proofs.lemmas.List.FromFn.{length-map-range_with_len, get_or-map-range_with_len}
use Rattle.std.proofs.lemmas.Bool.{cases_eq}
use Rattle.std.specs.Prelude.{slice_get}
use Rattle.std.proofs.lemmas.Option.{slice_get-get_or}
use Rattle.nuc_tiered.specs.Rings.{IsRings, IsTiered, cell, row}

pub cell_is : (heads : List ℕ) (p : ℕ) → cell heads p ≡ p / 512 * 512 + (get_or heads (p / 512) 0 + p % 512) % 512
unfolding cell
cell_is heads p = refl

pub row_length : (cells heads : List ℕ) → length (row cells heads) ≡ length cells
unfolding row
row_length cells heads = length-map-range_with_len (λ p. get_or cells (cell heads p) 0) 0 (length cells)

pub row_at : (cells heads : List ℕ) (p d : ℕ) → p < length cells → get_or (row cells heads) p d ≡ get_or cells (cell heads p) 0
unfolding row
row_at cells heads p d lt = get_or-map-range_with_len (λ p. get_or cells (cell heads p) 0) 0 (length cells) p p d lt (omega arith)

pub cell_within : (cells heads : List ℕ) (p : ℕ) → IsRings cells heads → p < length cells → cell heads p < length cells
cell_within cells heads p rings lt = let n = rings.blocks in omega (arith, cell_is heads p)

-- two positions stand in two cells
pub one_cell : (heads : List ℕ) (p q : ℕ) → cell heads p ≡ cell heads q → p ≡ q
one_cell heads p q same =
    let block : p / 512 ≡ q / 512 = omega (arith, cell_is heads p, cell_is heads q) in
    let head : get_or heads (p / 512) 0 ≡ get_or heads (q / 512) 0 = ap (λ k. get_or heads k 0) block in
    omega (arith, cell_is heads p, cell_is heads q)

pub row_set : (cells heads : List ℕ) (p c : ℕ) → IsRings cells heads → p < length cells → row (set cells (cell heads p) c) heads ≡ set (row cells heads) p c
row_set cells heads p c rings lt =
    let n = row_length cells heads in
    let m = length-set cells (cell heads p) c in
    same_lists _ _ (row_length _ heads ∙ m ∙ sym n ∙ sym (length-set _ p c))
    (λ k d h.
    let within : k < length cells = omega (arith, row_length (set cells (cell heads p) c) heads) in
    row_at _ heads k d (omega arith) ∙ elim (cases_eq k p) [
      | inl e ↦ subst (λ j. get_or (set cells (cell heads p) c) (cell heads j) 0 ≡ get_or (set (row cells heads) p c) j d) (sym e)
          (get_or-set_same cells (cell heads p) c 0 (cell_within cells heads p rings lt) ∙ sym (get_or-set_same (row cells heads) p c d (omega arith)))
      | inr apart ↦ get_or-set_other cells (cell heads p) (cell heads k) c 0 (λ s. apart (one_cell heads k p s))
          ∙ sym (row_at cells heads k d within) ∙ sym (get_or-set_other (row cells heads) p k c d apart)
    ])

-- more room changes no item
pub row_grown : (cells heads rooms more : List ℕ) (n : ℕ) → IsRings cells heads → n ≤ length cells → take n (row (cells ++ rooms) (heads ++ more)) ≡ take n (row cells heads)
row_grown cells heads rooms more n rings le =
    let long = row_length cells heads in
    let longer = row_length (cells ++ rooms) (heads ++ more) ∙ length-append cells rooms in
    same_lists _ _ (length-take-le n _ (omega arith) ∙ sym (length-take-le n _ (omega arith)))
    (λ k d h.
    let within : k < n = omega (arith, length-take-le n (row (cells ++ rooms) (heads ++ more)) (omega arith)) in
    let blocks = rings.blocks in
    let head = get_or_append_left heads more 0 (k / 512) (omega arith) in
    let place : cell (heads ++ more) k ≡ cell heads k = omega (arith, cell_is (heads ++ more) k, cell_is heads k) in
    get_or-take n _ k d within ∙ row_at _ _ k d (omega (arith, length-append cells rooms))
    ∙ ap (λ j. get_or (cells ++ rooms) j 0) place
    ∙ get_or_append_left cells rooms 0 (cell heads k) (cell_within cells heads k rings (omega arith))
    ∙ sym (row_at cells heads k d (omega arith)) ∙ sym (get_or-take n _ k d within))

-- the items
pub items_length : (cells heads : List ℕ) (n : ℕ) → IsTiered cells heads n → length (take n (row cells heads)) ≡ n
items_length cells heads n form = let le = form.within in length-take-le n (row cells heads) (omega (arith, row_length cells heads))

pub items_get : (cells heads : List ℕ) (n i : ℕ) → IsTiered cells heads n → i < n → slice_get (take n (row cells heads)) i ≡ Some (get_or cells (cell heads i) 0)
items_get cells heads n i form lt =
    let le = form.within in
    slice_get-get_or (take n (row cells heads)) i 0 (omega (arith, items_length cells heads n form))
    ∙ ap (λ x. Some x) (get_or-take n (row cells heads) i 0 lt ∙ row_at cells heads i 0 (omega arith))

-- the same by what `resize` leaves
pub row_resized : (cells heads rooms more : List ℕ) (n a b : ℕ) → IsRings cells heads → n ≤ length cells → length cells ≤ a → length heads ≤ b
    → take n (row (take a cells ++ rooms) (take b heads ++ more)) ≡ take n (row cells heads)
row_resized cells heads rooms more n a b rings le long longer =
    ap₂ (λ x y. take n (row (x ++ rooms) (y ++ more))) (take_all a cells long) (take_all b heads longer) ∙ row_grown cells heads rooms more n rings le
