-- The identities at which three trees differ, counted on the walk.
use Rattle.std.proofs.Common.{◌≡◌, ◌<◌, ◌≤◌, ◌+◌, ◌||◌, not, ℕ, zero, suc, Bool, true, false, cond, Option, None, Some, refl, sym, ap, ◌∙◌, inl, inr, arith}
use Rattle.std.specs.FinMap.{get}
use Rattle.std.proofs.lemmas.Bool.{cases_lt}
use Rattle.nuc_base.specs.Trees.{Nodes, WellFormed}
use Rattle.nuc_base.specs.declared.node.Node.{Node}
use Rattle.nuc_base.proofs.Maps.{same_nodes}
use Rattle.nuc_class.specs.Equal.{value_eq}
use Rattle.nuc_class.specs.Wishes.{AllEqual}
use Rattle.nuc_class.proofs.Tells.{value_eq-Decides}
use Rattle.nuc_plan.specs.Walk.{AllPassed, IsAnywhere, IsNext}
use Rattle.nuc_measure.specs.Differing.{differs, difference, IsDiffering}
use Rattle.nuc_measure.specs.Laws.{OneCount}
use Rattle.nuc_measure.specs.Totals.{total, AreBelow}
use Rattle.nuc_measure.proofs.Bounds.{Nowhere, is_total, nowhere_from, one_total, some_bound, some_total}
use Rattle.nuc_measure.proofs.Totals.{total_few, total_gap, total_one, total_zeros}

equal_by : (a b : Bool) → (a ≡ true) → (b ≡ true) → (not a || not b) ≡ false
equal_by a b e f = rw (e, f) refl

pub equal_tells : (r l s : Option Node) → AllEqual r l s → differs r l s ≡ false
equal_tells r l s (first, second) = equal_by (value_eq r l) (value_eq l s) ((value_eq-Decides r l).1 first) ((value_eq-Decides l s).1 second)

both_by : (a b : Bool) → (not a || not b) ≡ false → (a ≡ true) × (b ≡ true)
both_by true true e = (refl, refl)
both_by true false e = absurd (let no : true ≡ false = e in cc)
both_by false b e = absurd (let no : true ≡ false = e in cc)

pub tells_equal : (r l s : Option Node) → differs r l s ≡ false → AllEqual r l s
tells_equal r l s e =
    let (first, second) = both_by (value_eq r l) (value_eq l s) e in
    ((value_eq-Decides r l).0 first, (value_eq-Decides l s).0 second)

one_at_most : (b : Bool) → cond b 1 0 ≤ 1
one_at_most true = omega arith
one_at_most false = omega arith

zero_by : (b : Bool) → (let k : ℕ = cond b 1 0 in k ≡ 0) → b ≡ false
zero_by true e = absurd (omega (arith, e))
zero_by false e = refl

module _ (r l s : Nodes) where
  pub difference_few : (x : ℕ) → difference r l s x ≤ 1
  difference_few x = one_at_most (differs (get r x) (get l x) (get s x))

  pub difference_equal : (x : ℕ) → AllEqual (get r x) (get l x) (get s x) → difference r l s x ≡ 0
  difference_equal x equal = ap (λ (b : Bool). cond b 1 0) (equal_tells (get r x) (get l x) (get s x) equal)

  pub no_difference : (x : ℕ) → difference r l s x ≡ 0 → AllEqual (get r x) (get l x) (get s x)
  no_difference x e = tells_equal (get r x) (get l x) (get s x) (zero_by (differs (get r x) (get l x) (get s x)) e)

  pub difference_nowhere : (x : ℕ) → Nowhere r l s x → difference r l s x ≡ 0
  difference_nowhere x nowhere = difference_equal x (nowhere.remote ∙ sym nowhere.local, nowhere.local ∙ sym nowhere.synced)

  -- on the walk
  pub not_between : (below x y : ℕ) → IsNext r l s below x → below ≤ y → y < x → Nowhere r l s y
  not_between below x y next low high = record {
    remote = none (get r y) (λ n e. stands (inl (n, e)));
    local = none (get l y) (λ n e. stands (inr (inl (n, e))));
    synced = none (get s y) (λ n e. stands (inr (inr (n, e))));
  }
    where
      stands : IsAnywhere r l s y → ⊥
      stands anywhere = let le : x ≤ y = next.least y anywhere low in omega (arith, le, high)

      none : (o : Option Node) → ((n : Node) → o ≡ Some n → ⊥) → o ≡ None
      none None never = refl
      none (Some n) never = absurd (never n refl)

  -- up to the next identity the sum stays
  pub up_to_next : (below x : ℕ) → IsNext r l s below x → total x (difference r l s) ≡ total below (difference r l s)
  up_to_next below x next = total_gap below x (difference r l s) next.from (λ y low high. difference_nowhere y (not_between below x y next low high))

  pub one_more : (below x count : ℕ) (b : Bool) → IsNext r l s below x → b ≡ differs (get r x) (get l x) (get s x) → count ≡ total below (difference r l s)
      → count + cond b 1 0 ≡ total (suc x) (difference r l s)
  one_more below x count b next e before =
      let stays : total x (difference r l s) ≡ total below (difference r l s) = up_to_next below x next in
      let here : cond b 1 0 ≡ difference r l s x = ap (λ (t : Bool). cond t 1 0) e in
      omega (arith, stays, here, before)

  pub root_equal : WellFormed r → WellFormed l → WellFormed s → difference r l s 0 ≡ 0
  root_equal remote local synced = difference_equal 0 (remote.no_root ∙ sym local.no_root, local.no_root ∙ sym synced.no_root)

  -- fewer differ below a number than it says, so the count has room
  pub count_has_room : (below x count : ℕ) → WellFormed r → WellFormed l → WellFormed s → IsNext r l s below x → 0 < x
      → count ≡ total below (difference r l s) → count < x
  count_has_room below zero count remote local synced next some before = absurd (omega (arith, some))
  count_has_room below (suc x) count remote local synced next some before =
      let few : total (suc x) (difference r l s) ≤ x = total_few x (difference r l s) (root_equal remote local synced) difference_few in
      let stays : total (suc x) (difference r l s) ≡ total below (difference r l s) = up_to_next below (suc x) next in
      omega (arith, few, stays, before)

  pub passed_below : (below : ℕ) → AllPassed r l s below → AreBelow r l s below
  passed_below below passed = record {
    remote = λ x node e. passed x (inl (node, e));
    local = λ x node e. passed x (inr (inl (node, e)));
    synced = λ x node e. passed x (inr (inr (node, e)));
  }

  pub all_counted : (below count : ℕ) → AllPassed r l s below → count ≡ total below (difference r l s) → IsDiffering r l s count
  all_counted below count passed before n in_n =
      is_total r l s (difference r l s) difference_nowhere below (passed_below below passed) n in_n ∙ sym before

  none_differ : IsDiffering r l s 0 → (x : ℕ) → AllEqual (get r x) (get l x) (get s x)
  none_differ is x = elim (cases_lt x bound.0) [
    | inl less ↦
        let one : difference r l s x ≤ total bound.0 (difference r l s) = total_one bound.0 x (difference r l s) less in
        let sum : total bound.0 (difference r l s) ≡ 0 = is bound.0 bound.1 in
        no_difference x (omega (arith, one, sum))
    | inr from ↦
        let nowhere = nowhere_from r l s bound.0 x bound.1 from in
        (nowhere.remote ∙ sym nowhere.local, nowhere.local ∙ sym nowhere.synced)
  ]
    where
      bound : (n : ℕ) × AreBelow r l s n
      bound = some_bound r l s

pub one_count : OneCount
one_count r l s = record {
  some = some_total r l s (difference r l s) (difference_nowhere r l s);
  one = λ a b. one_total r l s (difference r l s) a b;
  none = (
    λ is. (same_nodes r l (λ x. (none_differ r l s is x).0), same_nodes l s (λ x. (none_differ r l s is x).1)),
    λ (first, second) n in_n. total_zeros n (difference r l s) (λ x h. difference_equal r l s x (ap (λ (m : Nodes). get m x) first, ap (λ (m : Nodes). get m x) second)),
  );
}
