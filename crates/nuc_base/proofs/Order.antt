-- The identities of a tree by position: each stands at one, and they rise.
use Rattle.std.proofs.Common.{◌≡◌, ◌≢◌, ◌<◌, ℕ, zero, suc, Bool, true, false, cond, List, [], ◌∷◌, length, map, Some, None, refl, sym, ap, subst, ◌∙◌, inl, inr, arith}
use Rattle.std.specs.Prelude.{T, ◌&&◌, slice_get}
use Rattle.std.specs.Cmp.{unsigned_tied}
use Rattle.std.specs.FinMap.{keys, len, entries, find, is_sorted, entries_sorted, get-entries, len-entries}
use Rattle.std.specs.FinMap.Entries.{below_all}
use Rattle.std.specs.Ordering.{nat_cmp, is_lt, eq_by_cmp}
use Rattle.std.specs.declared.cmp.Ordering.{Ordering}
use Rattle.std.specs.declared.cmp.Ordering.TheVariants.{Less, Equal, Greater}
use Rattle.std.proofs.lemmas.Cmp.{ranked}
use Rattle.std.proofs.lemmas.Bool.Decides.{eqb_tells}
use Rattle.nuc_base.specs.Trees.{Nodes, IsThere}
use Rattle.nuc_base.specs.declared.node.Node.{Node}
use Rattle.nuc_base.proofs.Maps.{same_or_not}

abbrev ids : List (ℕ × Node) → List ℕ
ids es = map (λ e. e.0) es

tied : (x y : ℕ) → x ≡ y → eq_by_cmp nat_cmp x y ≡ true
tied x y e = unsigned_tied x y ∙ elim (eqb_tells x y) [ inl (t, s) ↦ t | inr (t, apart) ↦ absurd (apart e) ]

untied : (x y : ℕ) → x ≢ y → eq_by_cmp nat_cmp x y ≡ false
untied x y apart = unsigned_tied x y ∙ elim (eqb_tells x y) [ inl (t, s) ↦ absurd (apart s) | inr (t, a) ↦ t ]

find_here : (x : ℕ) (e : ℕ × Node) (es : List (ℕ × Node)) → x ≡ e.0 → find nat_cmp x (e ∷ es) ≡ Some e.1
find_here x e es s = ap (λ b. cond b (Some e.1) (find nat_cmp x es)) (tied x e.0 s)

find_later : (x : ℕ) (e : ℕ × Node) (es : List (ℕ × Node)) → x ≢ e.0 → find nat_cmp x (e ∷ es) ≡ find nat_cmp x es
find_later x e es apart = ap (λ b. cond b (Some e.1) (find nat_cmp x es)) (untied x e.0 apart)

row_of : (es : List (ℕ × Node)) (x : ℕ) (n : Node) → find nat_cmp x es ≡ Some n → (i : ℕ) × (i < length es) × (slice_get (ids es) i ≡ Some x)
row_of [] x n e = absurd (let f : None ≡ Some n = e in cc)
row_of (e ∷ es) x n h = elim (same_or_not x e.0) [
  | inl s ↦ (0, omega arith, ap Some (sym s))
  | inr apart ↦ let rest = row_of es x n (sym (find_later x e es apart) ∙ h) in (suc rest.0, (let lt = rest.1 in omega arith), rest.2)
]

row_found : (es : List (ℕ × Node)) (i x : ℕ) → slice_get (ids es) i ≡ Some x → (n : Node) × (find nat_cmp x es ≡ Some n)
row_found [] i x h = absurd (let f : None ≡ Some x = h in cc)
row_found (e ∷ es) zero x h = let f : Some e.0 ≡ Some x = h in let s : e.0 ≡ x = cc in (e.1, find_here x e es (sym s))
row_found (e ∷ es) (suc i) x h = elim (same_or_not x e.0) [
  | inl s ↦ (e.1, find_here x e es s)
  | inr apart ↦ let rest = row_found es i x h in (rest.0, find_later x e es apart ∙ rest.1)
]

row_within : (es : List (ℕ × Node)) (i : ℕ) → i < length es → (x : ℕ) × (slice_get (ids es) i ≡ Some x)
row_within [] i lt = absurd (omega arith)
row_within (e ∷ es) zero lt = (e.0, refl)
row_within (e ∷ es) (suc i) lt = row_within es i (omega arith)

row_past : (es : List (ℕ × Node)) (i x : ℕ) → slice_get (ids es) i ≡ Some x → i < length es
row_past [] i x h = absurd (let f : None ≡ Some x = h in cc)
row_past (e ∷ es) zero x h = omega arith
row_past (e ∷ es) (suc i) x h = let rest = row_past es i x h in omega arith

first : (a b : Bool) → T (a && b) → T a
first true b p = tt
first false b p = absurd p

second : (a b : Bool) → T (a && b) → T b
second true b p = p
second false b p = absurd p

less : (x y : ℕ) (o : Ordering) → o ≡ nat_cmp x y → T (is_lt o) → x < y
less x y Less e p = ranked x y Less e
less x y Equal e p = absurd p
less x y Greater e p = absurd p

above : (y : ℕ) (es : List (ℕ × Node)) (i x : ℕ) → T (below_all nat_cmp y es) → slice_get (ids es) i ≡ Some x → y < x
above y [] i x b h = absurd (let f : None ≡ Some x = h in cc)
above y (e ∷ es) zero x b h =
    let f : Some e.0 ≡ Some x = h in
    let s : e.0 ≡ x = cc in
    subst (λ z. y < z) s (less y e.0 (nat_cmp y e.0) refl (first _ _ b))
above y (e ∷ es) (suc i) x b h = above y es i x (second _ _ b) h

rows_rise : (es : List (ℕ × Node)) (i j x y : ℕ) → T (is_sorted nat_cmp es) → i < j → slice_get (ids es) i ≡ Some x → slice_get (ids es) j ≡ Some y → x < y
rows_rise [] i j x y s lt g h = absurd (let f : None ≡ Some x = g in cc)
rows_rise (e ∷ es) zero zero x y s lt g h = absurd (omega arith)
rows_rise (e ∷ es) zero (suc j) x y s lt g h =
    let f : Some e.0 ≡ Some x = g in
    let q : e.0 ≡ x = cc in
    subst (λ z. z < y) q (above e.0 es j y (first _ _ s) h)
rows_rise (e ∷ es) (suc i) zero x y s lt g h = absurd (omega arith)
rows_rise (e ∷ es) (suc i) (suc j) x y s lt g h = rows_rise es i j x y (second _ _ s) (omega arith) g h

-- a node that is there stands at some position
pub nth_of : (m : Nodes) (x : ℕ) → IsThere m x → (i : ℕ) × (i < len m) × (slice_get (keys m) i ≡ Some x)
nth_of m x (n, e) =
    let row = row_of (entries m) x n (sym (get-entries m x) ∙ e) in
    (row.0, subst (λ l. row.0 < l) (sym (len-entries m)) row.1, row.2)

-- at a position stands a node that is there
pub nth_there : (m : Nodes) (i x : ℕ) → slice_get (keys m) i ≡ Some x → IsThere m x
nth_there m i x h = let row = row_found (entries m) i x h in (row.0, get-entries m x ∙ row.1)

-- there are as many positions as nodes
pub nth_within : (m : Nodes) (i : ℕ) → i < len m → (x : ℕ) × (slice_get (keys m) i ≡ Some x)
nth_within m i lt = row_within (entries m) i (subst (λ l. i < l) (len-entries m) lt)

pub nth_below : (m : Nodes) (i x : ℕ) → slice_get (keys m) i ≡ Some x → i < len m
nth_below m i x h = subst (λ l. i < l) (sym (len-entries m)) (row_past (entries m) i x h)

pub nth_rises : (m : Nodes) (i j x y : ℕ) → i < j → slice_get (keys m) i ≡ Some x → slice_get (keys m) j ≡ Some y → x < y
nth_rises m i j x y lt g h = rows_rise (entries m) i j x y (entries_sorted m) lt g h
