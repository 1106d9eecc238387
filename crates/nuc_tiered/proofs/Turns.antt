-- A ring that turns by one.
use Rattle.std.proofs.Common.{◌≡◌, ◌≢◌, ◌<◌, ◌≤◌, ◌+◌, ◌-◌, ◌*◌, ◌/◌, ◌%◌, ℕ, List, length, get_or, set, sym, ap, ap₂, subst, ◌∙◌, inl, inr, arith, length-set}
use Rattle.std.specs.List.{insert}
use Rattle.std.proofs.lemmas.List.{same_lists, set-set, set-get_or, get_or-set_same, get_or-set_other}
use Rattle.std.proofs.lemmas.List.Edits.{length-insert, get_or-insert_below, get_or-insert_at, get_or-insert_above}
use Rattle.std.proofs.lemmas.Bool.{cases_eq, cases_lt}
use Rattle.nuc_tiered.specs.Rings.{IsRings, cell, row}
use Rattle.nuc_tiered.proofs.Cells.{cell_is, row_length, row_at}

module _ (cells heads : List ℕ) (k c h at : ℕ) (blocks : length cells ≡ 512 * length heads) (lt : k < length heads)
    (head_is : h ≡ (get_or heads k 0 + 511) % 512) (at_is : at ≡ k * 512 + h) where
  -- the list with the hand in front of the ring, and with the hand behind it when that has turned
  abbrev before : List ℕ
  before = insert (row cells heads) (k * 512) c

  abbrev after : List ℕ
  after = insert (row (set cells at c) (set heads k h)) (k * 512 + 512) (get_or cells at 0)

  other : (p : ℕ) → p / 512 ≢ k → get_or (set cells at c) (cell (set heads k h) p) 0 ≡ get_or cells (cell heads p) 0
  other p apart =
      let head = get_or-set_other heads k (p / 512) h 0 apart in
      let place : cell (set heads k h) p ≡ cell heads p = omega (arith, cell_is (set heads k h) p, cell_is heads p) in
      ap (λ j. get_or (set cells at c) j 0) place ∙ get_or-set_other cells at (cell heads p) c 0 (λ s. omega (arith, cell_is heads p))

  first : get_or (set cells at c) (cell (set heads k h) (k * 512)) 0 ≡ c
  first =
      let block : k * 512 / 512 ≡ k = omega arith in
      let head : get_or (set heads k h) (k * 512 / 512) 0 ≡ h = ap (λ j. get_or (set heads k h) j 0) block ∙ get_or-set_same heads k h 0 lt in
      let place : cell (set heads k h) (k * 512) ≡ at = omega (arith, cell_is (set heads k h) (k * 512)) in
      ap (λ j. get_or (set cells at c) j 0) place ∙ get_or-set_same cells at c 0 (omega arith)

  next : (p : ℕ) → p / 512 ≡ k → p % 512 < 511 → get_or (set cells at c) (cell (set heads k h) (p + 1)) 0 ≡ get_or cells (cell heads p) 0
  next p block low =
      let block_next : (p + 1) / 512 ≡ k = omega arith in
      let head : get_or (set heads k h) ((p + 1) / 512) 0 ≡ h = ap (λ j. get_or (set heads k h) j 0) block_next ∙ get_or-set_same heads k h 0 lt in
      let head_before : get_or heads (p / 512) 0 ≡ get_or heads k 0 = ap (λ j. get_or heads j 0) block in
      let place : cell (set heads k h) (p + 1) ≡ cell heads p = omega (arith, cell_is (set heads k h) (p + 1), cell_is heads p) in
      ap (λ j. get_or (set cells at c) j 0) place ∙ get_or-set_other cells at (cell heads p) c 0 (λ s. omega (arith, cell_is heads p))

  last : get_or cells (cell heads (k * 512 + 511)) 0 ≡ get_or cells at 0
  last =
      let block : (k * 512 + 511) / 512 ≡ k = omega arith in
      let head : get_or heads ((k * 512 + 511) / 512) 0 ≡ get_or heads k 0 = ap (λ j. get_or heads j 0) block in
      let place : cell heads (k * 512 + 511) ≡ at = omega (arith, cell_is heads (k * 512 + 511)) in
      ap (λ j. get_or cells j 0) place

  whole : k * 512 + 512 ≤ length cells
  whole = omega arith

  behind : (q d : ℕ) → q < k * 512 + 512 → get_or after q d ≡ get_or (set cells at c) (cell (set heads k h) q) 0
  behind q d lt =
      let n = row_length (set cells at c) (set heads k h) ∙ length-set cells at c in
      let all = whole in
      get_or-insert_below _ (k * 512 + 512) (get_or cells at 0) d q lt (omega arith) ∙ row_at _ _ q d (omega (arith, length-set cells at c))

  ahead : (q d : ℕ) → k * 512 ≤ q → q < length cells → get_or before (q + 1) d ≡ get_or cells (cell heads q) 0
  ahead q d le lt =
      let n = row_length cells heads in
      let all = whole in
      get_or-insert_above _ (k * 512) c d q le (omega arith) ∙ row_at cells heads q d lt

  same_low : (q d : ℕ) → q < k * 512 → get_or after q d ≡ get_or before q d
  same_low q d lt =
      let n = row_length cells heads in
      let all = whole in
      behind q d (omega arith) ∙ other q (omega arith) ∙ sym (row_at cells heads q d (omega arith)) ∙ sym (get_or-insert_below _ (k * 512) c d q lt (omega arith))

  same_first : (d : ℕ) → get_or after (k * 512) d ≡ get_or before (k * 512) d
  same_first d =
      let n = row_length cells heads in
      let all = whole in
      behind (k * 512) d (omega arith) ∙ first ∙ sym (get_or-insert_at _ (k * 512) c d (omega arith))

  same_next : (q d : ℕ) → k * 512 ≤ q → q < k * 512 + 511 → get_or after (q + 1) d ≡ get_or before (q + 1) d
  same_next q d le lt = let all = whole in behind (q + 1) d (omega arith) ∙ next q (omega arith) (omega arith) ∙ sym (ahead q d le (omega arith))

  same_last : (d : ℕ) → get_or after (k * 512 + 512) d ≡ get_or before (k * 512 + 512) d
  same_last d =
      let n = row_length (set cells at c) (set heads k h) ∙ length-set cells at c in
      let all = whole in
      let up : k * 512 + 511 + 1 ≡ k * 512 + 512 = omega arith in
      get_or-insert_at _ (k * 512 + 512) (get_or cells at 0) d (omega arith)
      ∙ sym (ap (λ j. get_or before j d) (sym up) ∙ ahead (k * 512 + 511) d (omega arith) (omega arith) ∙ last)

  same_high : (q d : ℕ) → k * 512 + 512 ≤ q → q < length cells → get_or after (q + 1) d ≡ get_or before (q + 1) d
  same_high q d le lt =
      let n = row_length (set cells at c) (set heads k h) ∙ length-set cells at c in
      get_or-insert_above _ (k * 512 + 512) (get_or cells at 0) d q le (omega arith) ∙ row_at _ _ q d (omega (arith, length-set cells at c))
      ∙ other q (omega arith) ∙ sym (ahead q d (omega arith) lt)

  same_above : (q d : ℕ) → k * 512 ≤ q → q < length cells → get_or after (q + 1) d ≡ get_or before (q + 1) d
  same_above q d le lt = elim (cases_lt q (k * 512 + 511)) [
    | inl low ↦ same_next q d le low
    | inr high ↦ elim (cases_eq q (k * 512 + 511)) [
      | inl e ↦
          let up : q + 1 ≡ k * 512 + 512 = omega arith in
          subst (λ j. get_or after j d ≡ get_or before j d) (sym up) (same_last d)
      | inr apart ↦ same_high q d (omega arith) lt
    ]
  ]

  pub turned : insert (row (set cells at c) (set heads k h)) (k * 512 + 512) (get_or cells at 0) ≡ insert (row cells heads) (k * 512) c
  turned =
      let all = whole in
      let n = row_length cells heads in
      let m = row_length (set cells at c) (set heads k h) ∙ length-set cells at c in
      let long = length-insert (row cells heads) (k * 512) c (omega arith) in
      let longer = length-insert (row (set cells at c) (set heads k h)) (k * 512 + 512) (get_or cells at 0) (omega arith) in
      same_lists _ _ (longer ∙ ap (λ j. j + 1) (m ∙ sym n) ∙ sym long) (λ q d lt. elim (cases_lt q (k * 512)) [
        | inl low ↦ same_low q d low
        | inr high ↦ elim (cases_eq q (k * 512)) [
          | inl e ↦ subst (λ j. get_or after j d ≡ get_or before j d) (sym e) (same_first d)
          | inr apart ↦
              let up : q - 1 + 1 ≡ q = omega arith in
              subst (λ j. get_or after j d ≡ get_or before j d) up (same_above (q - 1) d (omega arith) (omega arith))
        ]
      ])

-- the same read from its end: the ring is turned back
pub turned_back : (cells heads : List ℕ) (k c h at : ℕ) → IsRings cells heads → k < length heads
    → h ≡ (get_or heads k 0 + 1) % 512 → at ≡ k * 512 + get_or heads k 0
    → insert (row (set cells at c) (set heads k h)) (k * 512) (get_or cells at 0) ≡ insert (row cells heads) (k * 512 + 512) c
turned_back cells heads k c h at rings lt head_is at_is =
    let blocks = rings.blocks in
    let low = rings.in_blocks k in
    let head : get_or (set heads k h) k 0 ≡ h = get_or-set_same heads k h 0 lt in
    let there : get_or (set cells at c) at 0 ≡ c = get_or-set_same cells at c 0 (omega arith) in
    let cells_back : set (set cells at c) at (get_or cells at 0) ≡ cells = set-set cells at c (get_or cells at 0) ∙ set-get_or cells at 0 in
    let heads_back : set (set heads k h) k (get_or heads k 0) ≡ heads = set-set heads k h (get_or heads k 0) ∙ set-get_or heads k 0 in
    let long : length (set cells at c) ≡ 512 * length (set heads k h) = omega (arith, length-set cells at c, length-set heads k h) in
    let same = turned (set cells at c) (set heads k h) k (get_or cells at 0) (get_or heads k 0) at long (omega (arith, length-set heads k h)) (omega arith) at_is in
    sym same
    ∙ ap₂ (λ a b. insert (row a b) (k * 512 + 512) (get_or (set cells at c) at 0)) cells_back heads_back
    ∙ ap (λ z. insert (row cells heads) (k * 512 + 512) z) there
