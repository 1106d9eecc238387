-- The walk goes through the identities of three trees one after another.
use Rattle.std.proofs.Common.{◌≡◌, ◌≢◌, ◌⊎◌, ◌<◌, ◌≤◌, ◌+◌, ◌-◌, ◌==◌, ℕ, suc, Bool, true, false, cond, Option, Some, None, IfSome, MatchOption, refl, sym, ap, subst, ◌∙◌, inl, inr, arith}
use Rattle.std.specs.Prelude.{nat_lt, slice_get}
use Rattle.std.proofs.lemmas.Bool.{cases_Bool, cases_lt, ltb-false, ltb-true}
use Rattle.std.proofs.lemmas.Bool.Decides.{eqb_tells}
use Rattle.std.proofs.lemmas.Option.{same_Some}
use Rattle.std.specs.FinMap.{get, keys, len}
use Rattle.nuc_base.specs.Trees.{Nodes, IsThere}
use Rattle.nuc_base.proofs.Order.{nth_below, nth_of, nth_rises, nth_there, nth_within}
use Rattle.nuc_base.proofs.Maps.{same_or_not}
use Rattle.nuc_plan.specs.Walk.{AllPassed, Divides, GoesPast, HasPassed, IsAnywhere, IsNext, behind, lesser, positions}
use Rattle.nuc_plan.specs.declared.walk.Walk.{Walk}

-- the lesser of two is one of them, and no greater than either
record IsLesser (a b : Option ℕ) (x : ℕ) : Type 0 where
  one : (a ≡ Some x) ⊎ (b ≡ Some x)
  first : (y : ℕ) → a ≡ Some y → x ≤ y
  second : (y : ℕ) → b ≡ Some y → x ≤ y

is_lesser : (a b : Option ℕ) (x : ℕ) → lesser a b ≡ Some x → IsLesser a b x
is_lesser None b x e = record {
  one = inr e;
  first = λ y f. absurd (cc);
  second = λ y f. let s : x ≡ y = same_Some x y (sym e ∙ f) in omega (arith, s);
}
is_lesser (Some u) None x e = record {
  one = inl e;
  first = λ y f. let s : x ≡ y = same_Some x y (sym e ∙ f) in omega (arith, s);
  second = λ y f. absurd (cc);
}
is_lesser (Some u) (Some v) x e = elim (cases_Bool (nat_lt v u)) [
  | inl less ↦
      let is : v ≡ x = same_Some v x (sym (ap (λ b. cond b (Some v) (Some u)) less) ∙ e) in
      let lt = ltb-true v u less in
      record {
        one = inr (ap Some is);
        first = λ y f. let s : u ≡ y = same_Some u y f in omega (arith, s, is, lt);
        second = λ y f. let s : v ≡ y = same_Some v y f in omega (arith, s, is);
      }
  | inr no_less ↦
      let is : u ≡ x = same_Some u x (sym (ap (λ b. cond b (Some v) (Some u)) no_less) ∙ e) in
      let le = ltb-false v u no_less in
      record {
        one = inl (ap Some is);
        first = λ y f. let s : u ≡ y = same_Some u y f in omega (arith, s, is);
        second = λ y f. let s : v ≡ y = same_Some v y f in omega (arith, s, is, le);
      }
]

no_lesser : (a b : Option ℕ) → lesser a b ≡ None → (a ≡ None) × (b ≡ None)
no_lesser None b e = (refl, e)
no_lesser (Some u) None e = absurd (cc)
no_lesser (Some u) (Some v) e = elim (cases_Bool (nat_lt v u)) [
  | inl less ↦ absurd (let no : None ≡ Some v = sym e ∙ ap (λ b. cond b (Some v) (Some u)) less in cc)
  | inr no_less ↦ absurd (let no : None ≡ Some u = sym e ∙ ap (λ b. cond b (Some v) (Some u)) no_less in cc)
]

pub behind_here : (o : Option ℕ) (x at : ℕ) → o ≡ Some x → behind o x at ≡ at + 1
behind_here None x at e = absurd (cc)
behind_here (Some y) x at e = elim (eqb_tells y x) [
  | inl (t, s) ↦ ap (λ b. cond b (at + 1) at) t
  | inr (t, apart) ↦ absurd (apart (same_Some y x e))
]

pub behind_other : (o : Option ℕ) (x at : ℕ) → o ≢ Some x → behind o x at ≡ at
behind_other None x at e = refl
behind_other (Some y) x at e = elim (eqb_tells y x) [
  | inl (t, s) ↦ absurd (e (ap Some s))
  | inr (t, apart) ↦ ap (λ b. cond b (at + 1) at) t
]

value_or_not : (o : Option ℕ) (x : ℕ) → (o ≡ Some x) ⊎ (o ≢ Some x)
value_or_not None x = inr (λ e. cc)
value_or_not (Some y) x = elim (same_or_not y x) [ inl s ↦ inl (ap Some s) | inr apart ↦ inr (λ e. apart (same_Some y x e)) ]

pub behind_rises : (o : Option ℕ) (x at : ℕ) → at ≤ behind o x at
behind_rises o x at = elim (value_or_not o x) [
  | inl here ↦ let is = behind_here o x at here in omega (arith, is)
  | inr other ↦ let is = behind_other o x at other in omega (arith, is)
]

module _ (m : Nodes) (below at : ℕ) (divides : Divides m below at) where
  -- all identities from there on are at positions from this one on
  later : (x : ℕ) → IsThere m x → below ≤ x → (i : ℕ) × (at ≤ i) × (slice_get (keys m) i ≡ Some x)
  later x there from =
      let place = nth_of m x there in
      elim (cases_lt place.0 at) [
        | inl before ↦ let less = divides.passed place.0 x place.2 before in absurd (omega (arith, less, from))
        | inr after ↦ (place.0, after, place.2)
      ]

  -- where there is nothing at the position, all has been passed
  pub ended : slice_get (keys m) at ≡ None → (x : ℕ) → IsThere m x → x < below
  ended none x there = elim (cases_lt x below) [
    | inl less ↦ less
    | inr from ↦
        let place = later x there from in
        let in_range = nth_below m place.0 x place.2 in
        elim (cases_lt at (len m)) [
          | inl less ↦ let here = nth_within m at less in absurd (let no : None ≡ Some here.0 = sym none ∙ here.1 in cc)
          | inr past ↦ let after = place.1 in absurd (omega (arith, past, after, in_range))
        ]
  ]

  -- what stands at the position is the least from there on
  pub least_here : (y x : ℕ) → slice_get (keys m) at ≡ Some y → IsThere m x → below ≤ x → y ≤ x
  least_here y x here there from =
      let place = later x there from in
      elim (same_or_not at place.0) [
        | inl s ↦ let is : y ≡ x = same_Some y x (sym here ∙ ap (slice_get (keys m)) s ∙ place.2) in omega (arith, is)
        | inr apart ↦
            let after = place.1 in
            let less : y < x = nth_rises m at place.0 y x (omega (arith, after, apart)) here place.2 in
            omega (arith, less)
      ]

  -- the least from there on is passed
  pub divides_on : (x : ℕ) → below ≤ x → ((y : ℕ) → slice_get (keys m) at ≡ Some y → x ≤ y) → Divides m (suc x) (behind (slice_get (keys m) at) x at)
  divides_on x from least = elim (value_or_not (slice_get (keys m) at) x) [
    | inl here ↦ subst (Divides m (suc x)) (sym (behind_here (slice_get (keys m) at) x at here)) (record {
      within = let in_range = nth_below m at x here in omega (arith, in_range);
      passed = λ i y stands before. elim (same_or_not i at) [
        | inl s ↦ let is : y ≡ x = same_Some y x (sym stands ∙ ap (slice_get (keys m)) s ∙ here) in omega (arith, is)
        | inr apart ↦ let less = divides.passed i y stands (omega (arith, before, apart)) in omega (arith, less, from)
      ];
      ahead = λ i y stands after. let less : x < y = nth_rises m at i x y (omega (arith, after)) here stands in omega (arith, less);
    })
    | inr other ↦ subst (Divides m (suc x)) (sym (behind_other (slice_get (keys m) at) x at other)) (record {
      within = divides.within;
      passed = λ i y stands before. let less = divides.passed i y stands before in omega (arith, less, from);
      ahead = λ i y stands after.
          let high : (z : ℕ) → slice_get (keys m) at ≡ Some z → x < z =
          λ z here. let le = least z here in elim (same_or_not x z) [
            | inl s ↦ absurd (other (here ∙ ap Some (sym s)))
            | inr apart ↦ omega (arith, le, apart)
          ] in
          let in_range = nth_below m i y stands in
          let first = nth_within m at (omega (arith, in_range, after)) in
          let x_first = high first.0 first.1 in
          let rest = least_here first.0 y first.1 (nth_there m i y stands) (divides.ahead i y stands after) in
          omega (arith, x_first, rest);
    })
  ]

module _ (r l s : Nodes) (below : ℕ) (walk : Walk) (passed : HasPassed r l s below walk) where
  abbrev in_r : Option ℕ
  in_r = slice_get (keys r) walk.remote

  abbrev in_l : Option ℕ
  in_l = slice_get (keys l) walk.local

  abbrev in_s : Option ℕ
  in_s = slice_get (keys s) walk.synced

  pub walk_ended : lesser (lesser in_r in_l) in_s ≡ None → AllPassed r l s below
  walk_ended none x anywhere =
      let last = no_lesser (lesser in_r in_l) in_s none in
      let both = no_lesser in_r in_l last.0 in
      elim anywhere [
        | inl there ↦ ended r below walk.remote passed.remote both.0 x there
        | inr other ↦ elim other [
          | inl there ↦ ended l below walk.local passed.local both.1 x there
          | inr there ↦ ended s below walk.synced passed.synced last.1 x there
        ]
      ]

  module _ (x : ℕ) (found : lesser (lesser in_r in_l) in_s ≡ Some x) where
    all : IsLesser (lesser in_r in_l) in_s x
    all = is_lesser (lesser in_r in_l) in_s x found

    two : (y : ℕ) → lesser in_r in_l ≡ Some y → IsLesser in_r in_l y
    two y e = is_lesser in_r in_l y e

    in_both : (a b : Option ℕ) (y : ℕ) → (a ≡ Some y) ⊎ (b ≡ Some y) → (z : ℕ) × (lesser a b ≡ Some z)
    in_both None None y e = absurd (elim e [ inl e ↦ cc | inr e ↦ cc ])
    in_both None (Some v) y e = (v, refl)
    in_both (Some u) None y e = (u, refl)
    in_both (Some u) (Some v) y e = elim (cases_Bool (nat_lt v u)) [
      | inl less ↦ (v, ap (λ b. cond b (Some v) (Some u)) less)
      | inr no_less ↦ (u, ap (λ b. cond b (Some v) (Some u)) no_less)
    ]

    least_r : (y : ℕ) → in_r ≡ Some y → x ≤ y
    least_r y e =
        let z = in_both in_r in_l y (inl e) in
        let le = all.first z.0 z.1 in
        let too = (two z.0 z.1).first y e in
        omega (arith, le, too)

    least_l : (y : ℕ) → in_l ≡ Some y → x ≤ y
    least_l y e =
        let z = in_both in_r in_l y (inr e) in
        let le = all.first z.0 z.1 in
        let too = (two z.0 z.1).second y e in
        omega (arith, le, too)

    least_s : (y : ℕ) → in_s ≡ Some y → x ≤ y
    least_s y e = all.second y e

    stands : (in_r ≡ Some x) ⊎ ((in_l ≡ Some x) ⊎ (in_s ≡ Some x))
    stands = elim all.one [
      | inl of_both ↦ elim (two x of_both).one [ inl e ↦ inl e | inr e ↦ inr (inl e) ]
      | inr e ↦ inr (inr e)
    ]

    from : below ≤ x
    from = elim stands [
      | inl e ↦ (passed.remote).ahead walk.remote x e (omega arith)
      | inr other ↦ elim other [
        | inl e ↦ (passed.local).ahead walk.local x e (omega arith)
        | inr e ↦ (passed.synced).ahead walk.synced x e (omega arith)
      ]
    ]

    least_in : (m : Nodes) (at : ℕ) → Divides m below at → ((y : ℕ) → slice_get (keys m) at ≡ Some y → x ≤ y) → (y : ℕ) → IsThere m y → below ≤ y → x ≤ y
    least_in m at divides least y there far =
        let place = later m below at divides y there far in
        let after = place.1 in
        let in_range = nth_below m place.0 y place.2 in
        let first = nth_within m at (omega (arith, in_range, after)) in
        let le = least first.0 first.1 in
        let rest = least_here m below at divides first.0 y first.1 there far in
        omega (arith, le, rest)

    is_next : IsNext r l s below x
    is_next = record {
      anywhere = elim stands [
        | inl e ↦ inl (nth_there r walk.remote x e)
        | inr other ↦ elim other [
          | inl e ↦ inr (inl (nth_there l walk.local x e))
          | inr e ↦ inr (inr (nth_there s walk.synced x e))
        ]
      ];
      from = from;
      least = λ y anywhere far. elim anywhere [
        | inl there ↦ least_in r walk.remote passed.remote least_r y there far
        | inr other ↦ elim other [
          | inl there ↦ least_in l walk.local passed.local least_l y there far
          | inr there ↦ least_in s walk.synced passed.synced least_s y there far
        ]
      ];
    }

    pub goes_past : (after : Walk) → after.remote ≡ behind in_r x walk.remote → after.local ≡ behind in_l x walk.local
        → after.synced ≡ behind in_s x walk.synced → GoesPast r l s below x walk after
    goes_past after remote local synced = record {
      next = is_next;
      passed = record {
        remote = subst (Divides r (suc x)) (sym remote) (divides_on r below walk.remote passed.remote x from least_r);
        local = subst (Divides l (suc x)) (sym local) (divides_on l below walk.local passed.local x from least_l);
        synced = subst (Divides s (suc x)) (sym synced) (divides_on s below walk.synced passed.synced x from least_s);
      };
      further =
          let up_r = behind_rises in_r x walk.remote in
          let up_l = behind_rises in_l x walk.local in
          let up_s = behind_rises in_s x walk.synced in
          elim stands [
            | inl e ↦ let on = behind_here in_r x walk.remote e in omega (arith, on, up_l, up_s, remote, local, synced)
            | inr other ↦ elim other [
              | inl e ↦ let on = behind_here in_l x walk.local e in omega (arith, on, up_r, up_s, remote, local, synced)
              | inr e ↦ let on = behind_here in_s x walk.synced e in omega (arith, on, up_r, up_l, remote, local, synced)
            ]
          ];
    }

-- a walk that goes past an identity has fewer positions left
pub fewer_left : (r l s : Nodes) (below x : ℕ) (before after : Walk) → GoesPast r l s below x before after
    → len r + len l + len s - positions after < len r + len l + len s - positions before
fewer_left r l s below x before after goes =
    let up = goes.further in
    let in_r = goes.passed.remote.within in
    let in_l = goes.passed.local.within in
    let in_s = goes.passed.synced.within in
    omega (arith, up, in_r, in_l, in_s)
