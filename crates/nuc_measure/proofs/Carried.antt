-- The potential, and what is carried, as sums over all identities.
use Rattle.std.proofs.Common.{◌≡◌, ◌≢◌, ◌<◌, ◌≤◌, ◌+◌, ◌*◌, ℕ, suc, Bool, true, false, cond, length, refl, sym, ap, subst, ◌∙◌, inl, inr, arith}
use Rattle.std.specs.Prelude.{IsTrue}
use Rattle.std.specs.FinMap.{get}
use Rattle.std.proofs.lemmas.Bool.{cases_Bool, cases_lt}
use Rattle.nuc_base.specs.Trees.{Nodes}
use Rattle.nuc_base.proofs.Maps.{same_nodes, same_or_not}
use Rattle.nuc_class.specs.Wishes.{AllEqual}
use Rattle.nuc_measure.specs.Cost.{cost}
use Rattle.nuc_measure.specs.Differing.{differs, difference}
use Rattle.nuc_measure.specs.Laws.{FlightsCount, IsOneCarried, IsOnePotential, OneCarried, OnePotential}
use Rattle.nuc_measure.specs.Pays.{FliesBelow, Keeps, Lowers, NoMoreFlies}
use Rattle.nuc_measure.specs.Potential.{IsPotential, marks, no_flight, points}
use Rattle.nuc_measure.specs.Totals.{total, AreBelow}
use Rattle.nuc_measure.proofs.Bounds.{Nowhere, are_below_more, nowhere_from, one_total, some_bound, some_total}
use Rattle.nuc_measure.proofs.Costs.{cost_few}
use Rattle.nuc_measure.proofs.Counting.{tells_equal}
use Rattle.nuc_measure.proofs.Points.{mark_few, points_differ, points_fly, points_equal, points_some}
use Rattle.nuc_measure.proofs.Steps.{Pays, Spares}
use Rattle.nuc_measure.proofs.Totals.{total_count, total_gap, total_le, total_less, total_one, total_pair, total_scale, total_zeros}

module _ (same : ℕ → ℕ → Bool) (r l s : Nodes) where
  pub points_nowhere : (fly : ℕ → Bool) (x : ℕ) → fly x ≡ false → Nowhere r l s x → points same fly r l s x ≡ 0
  points_nowhere fly x landed nowhere =
      points_equal same fly r l s x (nowhere.remote ∙ sym nowhere.local, nowhere.local ∙ sym nowhere.synced) ∙ ap (λ (f : Bool). cond f 1 0) landed

  points_few : (x : ℕ) → points same no_flight r l s x ≤ 6 * difference r l s x
  points_few x = elim (cases_Bool (differs (get r x) (get l x) (get s x))) [
    | inl apart ↦
        let is : points same no_flight r l s x ≡ cost same (get r x) (get l x) (get s x) + marks r l s x = points_differ same no_flight r l s x apart in
        let c = cost_few same (get r x) (get l x) (get s x) in
        let m = mark_few r l s true x in
        let n = mark_few l r s true x in
        let k = mark_few s r l false x in
        let one : difference r l s x ≡ 1 = ap (λ (b : Bool). cond b 1 0) apart in
        omega (arith, is, c, m, n, k, one)
    | inr equal ↦
        let none : points same no_flight r l s x ≡ 0 = points_equal same no_flight r l s x (tells_equal (get r x) (get l x) (get s x) equal) in
        omega (arith, none)
  ]

  none_differ : IsPotential same r l s 0 → (x : ℕ) → AllEqual (get r x) (get l x) (get s x)
  none_differ is x = elim (cases_lt x bound.0) [
    | inl less ↦ elim (cases_Bool (differs (get r x) (get l x) (get s x))) [
      | inl apart ↦
          let one = total_one bound.0 x (points same no_flight r l s) less in
          let sum : total bound.0 (points same no_flight r l s) ≡ 0 = is bound.0 bound.1 in
          let some = points_some same no_flight r l s x apart in
          absurd (omega (arith, one, sum, some))
      | inr equal ↦ tells_equal (get r x) (get l x) (get s x) equal
    ]
    | inr from ↦
        let nowhere = nowhere_from r l s bound.0 x bound.1 from in
        (nowhere.remote ∙ sym nowhere.local, nowhere.local ∙ sym nowhere.synced)
  ]
    where
      bound : (n : ℕ) × AreBelow r l s n
      bound = some_bound r l s

  pub one_potential : IsOnePotential same r l s
  one_potential = record {
    some = some_total r l s (points same no_flight r l s) (λ x. points_nowhere no_flight x refl);
    one = λ a b. one_total r l s (points same no_flight r l s) a b;
    none = (
      λ is. (same_nodes r l (λ x. (none_differ is x).0), same_nodes l s (λ x. (none_differ is x).1)),
      λ (first, second) n in_n.
          total_zeros n (points same no_flight r l s) (λ x h. points_equal same no_flight r l s x (ap (λ (m : Nodes). get m x) first, ap (λ (m : Nodes). get m x) second)),
    );
    few = λ k d is_k is_d.
        let bound = some_bound r l s in
        let k_sum = is_k bound.0 bound.1 in
        let d_sum = is_d bound.0 bound.1 in
        let le : total bound.0 (points same no_flight r l s) ≤ 6 * total bound.0 (difference r l s) =
        total_scale bound.0 6 (points same no_flight r l s) (difference r l s) (λ x h. points_few x) in
        omega (arith, k_sum, d_sum, le);
  }

  -- with flights
  module _ (fly : ℕ → Bool) (m : ℕ) (below : FliesBelow fly m) where
    landed_from : (n x : ℕ) → ((y : ℕ) → IsTrue (fly y) → y < n) → n ≤ x → fly x ≡ false
    landed_from n x in_n le = elim (cases_Bool (fly x)) [
      | inl up ↦ let less : x < n = in_n x up in absurd (omega (arith, less, le))
      | inr down ↦ down
    ]

    carried_below : (n k : ℕ) → AreBelow r l s n → ((y : ℕ) → IsTrue (fly y) → y < n) → AreBelow r l s k → ((y : ℕ) → IsTrue (fly y) → y < k)
        → total k (points same fly r l s) ≡ total n (points same fly r l s)
    carried_below n k in_n fly_n in_k fly_k = elim (cases_lt n k) [
      | inl less ↦
          total_gap n k (points same fly r l s) (omega (arith, less))
          (λ x low high. points_nowhere fly x (landed_from n x fly_n low) (nowhere_from r l s n x in_n low))
      | inr le ↦
          sym (total_gap k n (points same fly r l s) le
          (λ x low high. points_nowhere fly x (landed_from k x fly_k low) (nowhere_from r l s k x in_k low)))
    ]

    carried_bound : (n : ℕ) × AreBelow r l s n × ((y : ℕ) → IsTrue (fly y) → y < n)
    carried_bound =
        let bound = some_bound r l s in (
          bound.0 + m,
          are_below_more r l s bound.0 (bound.0 + m) (omega arith) bound.1,
          λ y up. let less : y < m = below y up in omega (arith, less),
        )

    pub one_carried : IsOneCarried same fly r l s m
    one_carried =
        let bound = carried_bound in
        let n = bound.0 in
        record {
          some = (total n (points same fly r l s), λ k in_k fly_k. carried_below n k bound.1 bound.2 in_k fly_k);
          one = λ a b is_a is_b. sym (is_a n bound.1 bound.2) ∙ is_b n bound.1 bound.2;
          more = λ a b is_a is_b.
              let a_sum = is_a n bound.1 in
              let b_sum = is_b n bound.1 bound.2 in
              let le = total_le n (points same no_flight r l s) (points same fly r l s) (λ x h. no_fewer x) in
              omega (arith, a_sum, b_sum, le);
          landed = λ k. (λ is i in_i. is i in_i (λ y up. absurd (let clash : false ≡ true = up in cc)), λ is i in_i flying. is i in_i);
        }
      where
        by : (d f : Bool) (c : ℕ) → cond d c 0 ≤ cond d c (cond f 1 0)
        by true f c = omega arith
        by false f c = omega arith

        no_fewer : (x : ℕ) → points same no_flight r l s x ≤ points same fly r l s x
        no_fewer x = by (differs (get r x) (get l x) (get s x)) (fly x) (cost same (get r x) (get l x) (get s x) + marks r l s x)

-- from points to what is carried
module _ (same : ℕ → ℕ → Bool) (fly now : ℕ → Bool) (flies : NoMoreFlies fly now) (r l s nr nl ns : Nodes) where
  both_below : (m q : ℕ) → FliesBelow fly m
      → (n : ℕ) × AreBelow r l s n × AreBelow nr nl ns n × ((y : ℕ) → IsTrue (fly y) → y < n) × ((y : ℕ) → IsTrue (now y) → y < n) × (q ≤ n)
  both_below m q below =
      let a = some_bound r l s in
      let b = some_bound nr nl ns in
      let n : ℕ = a.0 + (b.0 + (m + q)) in (
        n,
        are_below_more r l s a.0 n (omega arith) a.1,
        are_below_more nr nl ns b.0 n (omega arith) b.1,
        (λ y up. let less : y < m = below y up in omega (arith, less)),
        (λ y up. let less : y < m = below y (flies y up) in omega (arith, less)),
        omega arith,
      )

  pub spares_keeps : Spares same fly r l s now nr nl ns → Keeps same fly r l s now nr nl ns
  spares_keeps spares m a b below is_a is_b =
      let n = both_below m 0 below in
      let a_sum = is_a n.0 n.1 n.3 in
      let b_sum = is_b n.0 n.2 n.4 in
      let le = total_le n.0 (points same now nr nl ns) (points same fly r l s) (λ y h. spares y) in
      omega (arith, a_sum, b_sum, le)

  pub less_lowers : (x : ℕ) → points same now nr nl ns x < points same fly r l s x → ((y : ℕ) → points same now nr nl ns y ≤ points same fly r l s y)
      → Lowers same fly r l s now nr nl ns
  less_lowers x less le m a b below is_a is_b =
      let n = both_below m (suc x) below in
      let within : x < n.0 = let far = n.5 in omega (arith, far) in
      let a_sum = is_a n.0 n.1 n.3 in
      let b_sum = is_b n.0 n.2 n.4 in
      let falls = total_less n.0 x (points same now nr nl ns) (points same fly r l s) within less (λ y h. le y) in
      omega (arith, a_sum, b_sum, falls)

  pub pays_lowers : (x : ℕ) → Pays same fly r l s now nr nl ns x → Lowers same fly r l s now nr nl ns
  pays_lowers x pays = less_lowers x pays.less (λ y. elim (same_or_not y x) [
    | inl e ↦ ap_le y e
    | inr other ↦ pays.others y other
  ])
    where
      ap_le : (y : ℕ) → y ≡ x → points same now nr nl ns y ≤ points same fly r l s y
      ap_le y e = let less = pays.less in subst (λ z. points same now nr nl ns z ≤ points same fly r l s z) (sym e) (omega (arith, less))

  pub pair_lowers : (x z : ℕ) → x ≢ z → points same now nr nl ns x + points same now nr nl ns z < points same fly r l s x + points same fly r l s z
      → ((y : ℕ) → y ≢ x → y ≢ z → points same now nr nl ns y ≤ points same fly r l s y) → Lowers same fly r l s now nr nl ns
  pair_lowers x z apart less le m a b below is_a is_b =
      let n = both_below m (suc (x + z)) below in
      let far = n.5 in
      let in_x : x < n.0 = omega (arith, far) in
      let in_z : z < n.0 = omega (arith, far) in
      let a_sum = is_a n.0 n.1 n.3 in
      let b_sum = is_b n.0 n.2 n.4 in
      let falls = total_pair n.0 x z (points same now nr nl ns) (points same fly r l s) in_x in_z apart less (λ y h off_x off_z. le y off_x off_z) in
      omega (arith, a_sum, b_sum, falls)

pub potential_of : OnePotential
potential_of same r l s = one_potential same r l s

pub flights_count : FlightsCount
flights_count same fly r l s m k xs below apart flying is =
    let (n, in_n, fly_n) = carried_bound same r l s fly m below in
    let sum = is n in_n fly_n in
    let count : length xs ≤ total n (points same fly r l s) =
    total_count n (points same fly r l s) xs apart (λ i d within. let up = flying i d within in (fly_n _ up, points_fly same fly r l s _ up)) in
    omega (arith, sum, count)

pub carried_of : OneCarried
carried_of same fly r l s m below = one_carried same r l s fly m below
