-- The children of an identity are the rows with that parent, and these stand together.
use Rattle.std.proofs.Common.{◌≡◌, ◌≢◌, ◌<◌, ◌≤◌, ℕ, zero, suc, Bool, true, false, cond, List, [], ◌∷◌, map, get_or, Option, Some, None, MatchBool, is_some, option_map, refl, sym, ap, subst, ◌∙◌, inl, inr, arith}
use Rattle.std.specs.Prelude.{◌+◌, ◌==◌, slice_get}
use Rattle.std.specs.Cmp.{nat_cmp_is}
use Rattle.std.specs.List.{filter, AllByRecursion}
use Rattle.std.specs.Ordering.{nat_cmp, ordering_then}
use Rattle.std.specs.declared.cmp.Ordering.TheVariants.{Less, Equal, Greater}
use Rattle.std.proofs.lemmas.Bool.Decides.{eqb_tells}
use Rattle.std.proofs.lemmas.Cmp.{ranked}
use Rattle.std.proofs.lemmas.Option.{slice_get-get_or}
use Rattle.nuc_base.specs.Trees.{Nodes, HasChild, NoChild, children}
use Rattle.nuc_base.specs.declared.node.NodeId.{NodeId}
use Rattle.nuc_base.proofs.Children.{child_of, child_there, child_within, child_rises}
use Rattle.nuc_base.proofs.Maps.{same_or_not}
use Rattle.nuc_index.specs.Rows.{Rises, IsIn, Holds}
use Rattle.nuc_index.specs.Siblings.{sibling_order, IsRisingByParent, IsRowAt, IsRowGap, child_rows, id_below, IsRow}
use Rattle.nuc_index.specs.declared.sibling.Sibling.{Sibling}
use Rattle.nuc_index.proofs.Rows.{all_kept, all_in, at_in, found}
use Rattle.nuc_index.proofs.Search.{all_from}
use Rattle.nuc_index.proofs.Siblings.{row_of, tied_row}

-- two rising lists with the same elements are one

less_than : (x y : ℕ) → nat_cmp x y ≡ Less → x < y
less_than x y e = ranked x y Less (sym e)

same_head : (x y : ℕ) (xs ys : List ℕ) → Rises nat_cmp (x ∷ xs) → Rises nat_cmp (y ∷ ys) → IsIn x (y ∷ ys) → IsIn y (x ∷ xs) → x ≡ y
same_head x y xs ys r s (inl e) k = sym e
same_head x y xs ys r s (inr h) (inl e) = e
same_head x y xs ys r s (inr h) (inr k) =
    let up = less_than y x (all_in (λ z. nat_cmp y z ≡ Less) ys x s.0 h) in
    let down = less_than x y (all_in (λ z. nat_cmp x z ≡ Less) xs y r.0 k) in
    absurd (omega (arith, up, down))

in_tail : (x y z : ℕ) (xs ys : List ℕ) → Rises nat_cmp (x ∷ xs) → x ≡ y → IsIn z xs → IsIn z (y ∷ ys) → IsIn z ys
in_tail x y z xs ys r e h (inl s) = let up = less_than x z (all_in (λ w. nat_cmp x w ≡ Less) xs z r.0 h) in absurd (omega (arith, up, e, s))
in_tail x y z xs ys r e h (inr k) = k

same_rising : (xs ys : List ℕ) → Rises nat_cmp xs → Rises nat_cmp ys → ((z : ℕ) → IsIn z xs → IsIn z ys) → ((z : ℕ) → IsIn z ys → IsIn z xs) → xs ≡ ys
same_rising [] [] r s f g = refl
same_rising [] (y ∷ ys) r s f g = absurd (g y (inl refl))
same_rising (x ∷ xs) [] r s f g = absurd (f x (inl refl))
same_rising (x ∷ xs) (y ∷ ys) r s f g =
    let head = same_head x y xs ys r s (f x (inl refl)) (g y (inl refl)) in
    let tail = same_rising xs ys r.1 s.1 (λ z h. in_tail x y z xs ys r head h (f z (inr h))) (λ z h. in_tail y x z ys xs s (sym head) h (g z (inr h))) in
    ap (λ z. z ∷ xs) head ∙ ap (λ l. y ∷ l) tail

-- by position

rises_from : (xs : List ℕ) → ((i j y z : ℕ) → i < j → slice_get xs i ≡ Some y → slice_get xs j ≡ Some z → y < z) → Rises nat_cmp xs
rises_from [] f = tt
rises_from (x ∷ xs) f = (
  all_from (λ y. nat_cmp x y ≡ Less) xs (λ k d lt. sym (nat_cmp_is x (get_or xs k d) Less (f 0 (suc k) x (get_or xs k d) (omega arith) refl (slice_get-get_or xs k d lt)))),
  rises_from xs (λ i j y z lt g h. f (suc i) (suc j) y z (omega arith) g h),
)

in_at : (xs : List ℕ) (x : ℕ) → IsIn x xs → (i : ℕ) × (slice_get xs i ≡ Some x)
in_at [] x h = absurd h
in_at (y ∷ ys) x (inl e) = (0, ap Some e)
in_at (y ∷ ys) x (inr h) = let rest = in_at ys x h in (suc rest.0, rest.1)

-- what the rows with a parent hold, and their order

is_eq : (x y : ℕ) → x ≡ y → (x == y) ≡ true
is_eq x y e = elim (eqb_tells x y) [ inl (t, s) ↦ t | inr (t, apart) ↦ absurd (apart e) ]

not_eq : (x y : ℕ) → x ≢ y → (x == y) ≡ false
not_eq x y apart = elim (eqb_tells x y) [ inl (t, s) ↦ absurd (apart s) | inr (t, a) ↦ t ]

up_by_parent : (r s : Sibling) → sibling_order r s ≡ Less → r.parent.0 ≤ s.parent.0
up_by_parent r s less = elim (nat_cmp r.parent.0 s.parent.0) as (λ o. o ≡ nat_cmp r.parent.0 s.parent.0 → ordering_then o (nat_cmp r.id.0 s.id.0) ≡ Less → r.parent.0 ≤ s.parent.0) [
  | Less ↦ λ o e. let lt = ranked r.parent.0 s.parent.0 Less o in omega arith
  | Equal ↦ λ o e. let eq = ranked r.parent.0 s.parent.0 Equal o in omega arith
  | Greater ↦ λ o e. absurd (let f : Greater ≡ Less = e in cc)
] refl less

module _ (x : ℕ) where
  abbrev kept_first : Sibling → List Sibling → Bool → List ℕ
  kept_first r rs b = map (λ s. s.id.0) (cond b (r ∷ filter (λ s. s.parent.0 == x) rs) (filter (λ s. s.parent.0 == x) rs))

  rows_with : (r : Sibling) (rs : List Sibling) → r.parent.0 ≡ x → child_rows x (r ∷ rs) ≡ r.id.0 ∷ child_rows x rs
  rows_with r rs e = ap (kept_first r rs) (is_eq r.parent.0 x e)

  rows_without : (r : Sibling) (rs : List Sibling) → r.parent.0 ≢ x → child_rows x (r ∷ rs) ≡ child_rows x rs
  rows_without r rs apart = ap (kept_first r rs) (not_eq r.parent.0 x apart)

  in_rows : (rs : List Sibling) (z : ℕ) → IsIn z (child_rows x rs) → IsIn (row_of x z) rs
  in_rows [] z h = absurd h
  in_rows (r ∷ rs) z h = elim (same_or_not r.parent.0 x) [
    | inl e ↦ elim (subst (λ l. IsIn z l) (rows_with r rs e) h) [
      | inl s ↦ inl (λ i. row_of (e i) (s i))
      | inr k ↦ inr (in_rows rs z k)
    ]
    | inr apart ↦ inr (in_rows rs z (subst (λ l. IsIn z l) (rows_without r rs apart) h))
  ]

  rows_in : (rs : List Sibling) (z : ℕ) → IsIn (row_of x z) rs → IsIn z (child_rows x rs)
  rows_in [] z h = absurd h
  rows_in (r ∷ rs) z (inl e) = subst (λ l. IsIn z l) (sym (rows_with r rs (ap (λ s. s.parent.0) e))) (inl (ap (λ s. s.id.0) e))
  rows_in (r ∷ rs) z (inr h) = elim (same_or_not r.parent.0 x) [
    | inl e ↦ subst (λ l. IsIn z l) (sym (rows_with r rs e)) (inr (rows_in rs z h))
    | inr apart ↦ subst (λ l. IsIn z l) (sym (rows_without r rs apart)) (rows_in rs z h)
  ]

  above : (r : Sibling) (rs : List Sibling) → r.parent.0 ≡ x → AllByRecursion (λ s. sibling_order r s ≡ Less) rs → AllByRecursion (λ z. nat_cmp r.id.0 z ≡ Less) (child_rows x rs)
  above r [] e all = tt
  above r (s ∷ rs) e all = elim (same_or_not s.parent.0 x) [
    | inl f ↦
        let tie : nat_cmp r.parent.0 s.parent.0 ≡ Equal = sym (nat_cmp_is r.parent.0 s.parent.0 Equal (e ∙ sym f)) in
        let less : nat_cmp r.id.0 s.id.0 ≡ Less = ap (λ o. ordering_then o (nat_cmp r.id.0 s.id.0)) (sym tie) ∙ all.0 in
        subst (λ l. AllByRecursion (λ z. nat_cmp r.id.0 z ≡ Less) l) (sym (rows_with s rs f)) (less, above r rs e all.1)
    | inr apart ↦ subst (λ l. AllByRecursion (λ z. nat_cmp r.id.0 z ≡ Less) l) (sym (rows_without s rs apart)) (above r rs e all.1)
  ]

  rows_rise : (rs : List Sibling) → IsRisingByParent rs → Rises nat_cmp (child_rows x rs)
  rows_rise [] rise = tt
  rows_rise (r ∷ rs) rise = elim (same_or_not r.parent.0 x) [
    | inl e ↦ subst (λ l. Rises nat_cmp l) (sym (rows_with r rs e)) (above r rs e rise.0, rows_rise rs rise.1)
    | inr apart ↦ subst (λ l. Rises nat_cmp l) (sym (rows_without r rs apart)) (rows_rise rs rise.1)
  ]

  pub children_are : (m : Nodes) (rs : List Sibling) → IsRisingByParent rs → Holds (IsRow m) rs → children m x ≡ child_rows x rs
  children_are m rs rise holds = same_rising (children m x) (child_rows x rs)
      (rises_from (children m x) (λ i j y z lt g h. child_rises m x i j y z lt g h))
      (rows_rise rs rise)
      (λ z h. let at = in_at (children m x) z h in rows_in rs z (holds.every (row_of x z) (child_there m x at.0 z at.1)))
      (λ z h. let has = holds.each (row_of x z) (in_rows rs z h) in let at = child_of m x z has.0 has.1 has.2 in at_in (children m x) at.0 z at.2)

  -- the rows with a parent stand together, from the first that isn't below it

  pub row_own : (r : Sibling) → r.parent.0 ≡ x → id_below x (Some r) ≡ Some r.id.0
  row_own r e = ap (λ b. cond b (Some r.id.0) None) (is_eq r.parent.0 x e)

  pub row_other : (r : Sibling) → r.parent.0 ≢ x → id_below x (Some r) ≡ None
  row_other r apart = ap (λ b. cond b (Some r.id.0) None) (not_eq r.parent.0 x apart)

  none_kept : (rs : List Sibling) → AllByRecursion (λ r. x < r.parent.0) rs → child_rows x rs ≡ []
  none_kept [] all = refl
  none_kept (r ∷ rs) all = rows_without r rs (λ e. absurd (let lt = all.0 in omega arith)) ∙ none_kept rs all.1

  none_picked : (rs : List Sibling) (i : ℕ) → AllByRecursion (λ r. x < r.parent.0) rs → id_below x (slice_get rs i) ≡ None
  none_picked [] i all = refl
  none_picked (r ∷ rs) zero all = row_other r (λ e. absurd (let lt = all.0 in omega arith))
  none_picked (r ∷ rs) (suc i) all = none_picked rs i all.1

  own_first : (r : Sibling) (rs : List Sibling) (i : ℕ) → r.parent.0 ≡ x → ((j : ℕ) → slice_get (child_rows x rs) j ≡ id_below x (slice_get rs j))
      → slice_get (r.id.0 ∷ child_rows x rs) i ≡ id_below x (slice_get (r ∷ rs) i)
  own_first r rs zero e rest = sym (row_own r e)
  own_first r rs (suc i) e rest = rest i

  picked_from : (rs : List Sibling) (i : ℕ) → IsRisingByParent rs → AllByRecursion (λ r. x ≤ r.parent.0) rs → slice_get (child_rows x rs) i ≡ id_below x (slice_get rs i)
  picked_from [] i rise all = refl
  picked_from (r ∷ rs) i rise all = elim (same_or_not r.parent.0 x) [
    | inl e ↦ ap (λ l. slice_get l i) (rows_with r rs e) ∙ own_first r rs i e (λ j. picked_from rs j rise.1 all.1)
    | inr apart ↦
        let first : x < r.parent.0 = let le = all.0 in omega arith in
        let later = all_kept (λ s. sibling_order r s ≡ Less) (λ s. x < s.parent.0) rs (λ s h less. let le = up_by_parent r s less in omega arith) rise.0 in
        ap (λ l. slice_get l i) (none_kept (r ∷ rs) (first, later)) ∙ sym (none_picked (r ∷ rs) i (first, later))
  ]

  -- where the row of identity 0 would stand

  abbrev first : Sibling
  first = row_of x 0

  below_first : (r : Sibling) → sibling_order r first ≡ Less → r.parent.0 < x
  below_first r less = elim (nat_cmp r.parent.0 x) as (λ o. o ≡ nat_cmp r.parent.0 x → ordering_then o (nat_cmp r.id.0 0) ≡ Less → r.parent.0 < x) [
    | Less ↦ λ o e. ranked r.parent.0 x Less o
    | Equal ↦ λ o e. absurd (let lt : r.id.0 < 0 = ranked r.id.0 0 Less (sym e) in omega arith)
    | Greater ↦ λ o e. absurd (let f : Greater ≡ Less = e in cc)
  ] refl less

  from_first : (r : Sibling) → sibling_order r first ≡ Greater → x ≤ r.parent.0
  from_first r more = elim (nat_cmp r.parent.0 x) as (λ o. o ≡ nat_cmp r.parent.0 x → ordering_then o (nat_cmp r.id.0 0) ≡ Greater → x ≤ r.parent.0) [
    | Less ↦ λ o e. absurd (let f : Less ≡ Greater = e in cc)
    | Equal ↦ λ o e. let eq = ranked r.parent.0 x Equal o in omega arith
    | Greater ↦ λ o e. let lt = ranked r.parent.0 x Greater o in omega arith
  ] refl more

  below_is : (r : Sibling) (rs : List Sibling) (k i : ℕ) → sibling_order r first ≡ Less → slice_get (child_rows x rs) i ≡ id_below x (slice_get rs (i + k))
      → slice_get (child_rows x (r ∷ rs)) i ≡ id_below x (slice_get (r ∷ rs) (i + suc k))
  below_is r rs k i less rest =
      let later : suc (i + k) ≡ i + suc k = omega arith in
      ap (λ l. slice_get l i) (rows_without r rs (λ e. absurd (let lt = below_first r less in omega arith))) ∙ rest
      ∙ ap (λ j. id_below x (slice_get (r ∷ rs) j)) later

  at_start : (rs : List Sibling) (i : ℕ) → slice_get (child_rows x rs) i ≡ id_below x (slice_get rs i) → slice_get (child_rows x rs) i ≡ id_below x (slice_get rs (i + 0))
  at_start rs i e = let same : i ≡ i + 0 = omega arith in subst (λ j. slice_get (child_rows x rs) i ≡ id_below x (slice_get rs j)) same e

  pub picked_gap : (rs : List Sibling) (k i : ℕ) → IsRisingByParent rs → IsRowGap first rs k → slice_get (child_rows x rs) i ≡ id_below x (slice_get rs (i + k))
  picked_gap [] k i rise gap = refl
  picked_gap (r ∷ rs) zero i rise gap = at_start (r ∷ rs) i
      (picked_from (r ∷ rs) i rise (all_kept (λ s. sibling_order s first ≡ Greater) (λ s. x ≤ s.parent.0) (r ∷ rs) (λ s h more. from_first s more) gap))
  picked_gap (r ∷ rs) (suc k) i rise gap = below_is r rs k i gap.0 (picked_gap rs k i rise.1 gap.1)

  pub picked_at : (rs : List Sibling) (k i : ℕ) → IsRisingByParent rs → IsRowAt first rs k → slice_get (child_rows x rs) i ≡ id_below x (slice_get rs (i + k))
  picked_at [] k i rise at = absurd at
  picked_at (r ∷ rs) zero i rise at =
      let own : r ≡ first = tied_row r first at in
      let same : r.parent.0 ≡ x = ap (λ s. s.parent.0) own in
      let later = all_kept (λ s. sibling_order r s ≡ Less) (λ s. x ≤ s.parent.0) rs (λ s h less. let le = up_by_parent r s less in omega arith) rise.0 in
      at_start (r ∷ rs) i (picked_from (r ∷ rs) i rise ((omega arith), later))
  picked_at (r ∷ rs) (suc k) i rise at =
      let s = found (λ s. sibling_order s first) rs k at in
      let less : sibling_order r s.0 ≡ Less = all_in (λ s. sibling_order r s ≡ Less) rs s.0 rise.0 (at_in rs k s.0 s.1) in
      below_is r rs k i (subst (λ t. sibling_order r t ≡ Less) (tied_row s.0 first s.2) less) (picked_at rs k i rise.1 at)

-- whether there is a first child tells whether there is one
first_tells : (m : Nodes) (x : ℕ) (o : Option NodeId) → option_map (λ z. z.0) o ≡ slice_get (children m x) 0 → MatchBool (is_some o) (HasChild m x) (NoChild m x)
first_tells m x None e = λ y n there parent.
    let at = child_of m x y n there parent in
    let first = child_within m x 0 (let lt = at.1 in omega arith) in
    let both : None ≡ Some first.0 = e ∙ first.1 in cc
first_tells m x (Some z) e = let child = child_there m x 0 z.0 (sym e) in (z.0, child.0, child.1, child.2)

-- and so the first of the rows does
pub first_row_tells : (m k : Nodes) (x : ℕ) (o : Option NodeId) (rs : List Sibling) → m ≡ k → IsRisingByParent rs → Holds (IsRow m) rs
    → option_map (λ z. z.0) o ≡ slice_get (child_rows x rs) 0 → MatchBool (is_some o) (HasChild k x) (NoChild k x)
first_row_tells m k x o rs view rise holds e = subst (λ l. MatchBool (is_some o) (HasChild l x) (NoChild l x)) view
    (first_tells m x o (e ∙ ap (λ l. slice_get l 0) (sym (children_are x m rs rise holds))))
