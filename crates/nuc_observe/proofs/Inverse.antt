-- Two maps that lead back to each other, as an identity gets or loses a key.
use Rattle.std.proofs.Common.{◌≡◌, ◌≢◌, ℕ, Option, None, Some, refl, sym, ap, subst, ◌∙◌, inl, inr, arith}
use Rattle.std.specs.FinMap.{get, insert, remove, len, empty, get-empty}
use Rattle.std.specs.Ordering.{nat_cmp}
use Rattle.nuc_lookup.specs.Rows.{Numbers, without}
use Rattle.nuc_observe.specs.Keys.{IsFree}
use Rattle.nuc_observe.specs.Inverse.{AreInverse}
use Rattle.nuc_lookup.proofs.Maps.{same_or_not, get_put_same, get_put_other, get_cut_same, get_cut_other, one_number, not_both, len_put_new, len_put_over, len_cut, len_cut_none}

pub nobody : (ids keys : Numbers) → ids ≡ empty → keys ≡ empty → AreInverse ids keys
nobody ids keys none nor = record {
  there = λ x k at. absurd (not_both (get ids x) k (ap (λ m. get m x) none ∙ get-empty nat_cmp x) at);
  back = λ x k at. absurd (not_both (get keys k) x (ap (λ m. get m k) nor ∙ get-empty nat_cmp k) at);
  size = ap len none ∙ sym (ap len nor);
}

pub inverse_as : (ids keys ids' keys' : Numbers) → AreInverse ids keys → ids' ≡ ids → keys' ≡ keys → AreInverse ids' keys'
inverse_as ids keys ids' keys' inverse is so = subst (λ m. AreInverse m keys') (sym is) (subst (AreInverse ids) (sym so) inverse)

module _ (ids keys : Numbers) (inverse : AreInverse ids keys) (x : ℕ) where
  -- x LOSES ITS KEY
  -- the keys without that of x are those of the others
  mine_gone : (o : Option ℕ) → get ids x ≡ o → (y j : ℕ) → y ≢ x → get ids y ≡ Some j → get (without keys o) j ≡ Some y
  mine_gone None is y j other at = inverse.there y j at
  mine_gone (Some k) is y j other at = elim (same_or_not j k) [
    | inl same ↦ absurd (other (one_number (get keys k) y x (subst (λ i. get keys i ≡ Some y) same (inverse.there y j at)) (inverse.there x k is)))
    | inr apart ↦ get_cut_other keys k j apart ∙ inverse.there y j at
  ]

  others_stay : (o : Option ℕ) → get ids x ≡ o → (y j : ℕ) → get (without keys o) j ≡ Some y → (y ≢ x) × (get ids y ≡ Some j)
  others_stay None is y j at =
      let mine = inverse.back y j at in
      (λ same. not_both (get ids x) j is (subst (λ z. get ids z ≡ Some j) same mine), mine)
  others_stay (Some k) is y j at = elim (same_or_not j k) [
    | inl same ↦ absurd (not_both (get (remove keys k) k) y (get_cut_same keys k) (subst (λ i. get (remove keys k) i ≡ Some y) same at))
    | inr apart ↦
        let mine = inverse.back y j (sym (get_cut_other keys k j apart) ∙ at) in
        (λ same. apart (one_number (get ids x) j k (subst (λ z. get ids z ≡ Some j) same mine) is), mine)
  ]

  cut_size : (o : Option ℕ) → get ids x ≡ o → len (remove ids x) ≡ len (without keys o)
  cut_size None is = len_cut_none ids x is ∙ inverse.size
  cut_size (Some k) is = omega (arith, len_cut ids x k is, len_cut keys k x (inverse.there x k is), inverse.size)

  pub cut_inverse : AreInverse (remove ids x) (without keys (get ids x))
  cut_inverse = record {
    there = λ y j at. elim (same_or_not y x) [
      | inl same ↦ absurd (not_both (get (remove ids x) x) j (get_cut_same ids x) (subst (λ z. get (remove ids x) z ≡ Some j) same at))
      | inr other ↦ mine_gone (get ids x) refl y j other (sym (get_cut_other ids x y other) ∙ at)
    ];
    back = λ y j at. let found = others_stay (get ids x) refl y j at in get_cut_other ids x y found.0 ∙ found.1;
    size = cut_size (get ids x) refl;
  }

  -- x GETS THE KEY k, which nobody else has
  module _ (k : ℕ) (free : IsFree ids x k) where
    -- nobody has it, once x's own is gone
    gone : (o : Option ℕ) → get ids x ≡ o → get (without keys o) k ≡ None
    gone o is = elim (get (without keys o) k) as (λ found. get (without keys o) k ≡ found → found ≡ None) [
      | None ↦ λ e. refl
      | Some y ↦ λ e. let found = others_stay o is y k e in absurd (found.0 (free y found.1))
    ] refl

    put_size : (o : Option ℕ) → get ids x ≡ o → len (insert ids x k) ≡ len (insert (without keys o) k x)
    put_size None is = omega (arith, len_put_new ids x k is, len_put_new keys k x (gone None is), inverse.size)
    put_size (Some j) is = omega (arith, len_put_over ids x k j is, len_put_new (remove keys j) k x (gone (Some j) is), len_cut keys j x (inverse.there x j is), inverse.size)

    pub put_inverse : AreInverse (insert ids x k) (insert (without keys (get ids x)) k x)
    put_inverse = record {
      there = λ y j at. elim (same_or_not y x) [
        | inl same ↦
            let key : j ≡ k = one_number (get (insert ids x k) x) j k (subst (λ z. get (insert ids x k) z ≡ Some j) same at) (get_put_same ids x k) in
            ap (get (insert (without keys (get ids x)) k x)) key ∙ get_put_same _ k x ∙ ap Some (sym same)
        | inr other ↦
            let mine : get ids y ≡ Some j = sym (get_put_other ids x k y other) ∙ at in
            let apart : j ≢ k = λ same. other (free y (subst (λ i. get ids y ≡ Some i) same mine)) in
            get_put_other _ k x j apart ∙ mine_gone (get ids x) refl y j other mine
      ];
      back = λ y j at. elim (same_or_not j k) [
        | inl same ↦
            let who : y ≡ x = one_number (get (insert (without keys (get ids x)) k x) k) y x (subst (λ i. get (insert (without keys (get ids x)) k x) i ≡ Some y) same at) (get_put_same _ k x) in
            ap (get (insert ids x k)) who ∙ get_put_same ids x k ∙ ap Some (sym same)
        | inr apart ↦
            let found = others_stay (get ids x) refl y j (sym (get_put_other _ k x j apart) ∙ at) in
            get_put_other ids x k y found.0 ∙ found.1
      ];
      size = put_size (get ids x) refl;
    }
