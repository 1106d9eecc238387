-- The least that needs a split, and the topmost with a wish, found by going through a tree.
use Rattle.std.proofs.Common.{◌≡◌, ◌<◌, ◌≤◌, ◌+◌, ℕ, Bool, Option, Some, None, IfSome, refl, sym, subst, ◌∙◌, inl, inr, arith}
use Rattle.std.specs.Prelude.{slice_get, IsTrue, IsSomeAnd}
use Rattle.std.proofs.lemmas.Bool.{cases_lt}
use Rattle.std.proofs.lemmas.Option.{same_Some}
use Rattle.std.specs.FinMap.{get, keys, len}
use Rattle.nuc_base.specs.Trees.{Nodes, IsThere, Precedes, Steps, WellFormed}
use Rattle.nuc_base.specs.declared.node.Node.{Node}
use Rattle.nuc_base.proofs.Depths.{depth_of, one_depth}
use Rattle.nuc_base.proofs.Maps.{same_or_not}
use Rattle.nuc_base.proofs.Order.{nth_of, nth_there, nth_rises, nth_within}
use Rattle.nuc_class.specs.Split.{needs_split}
use Rattle.nuc_class.specs.Wishes.{IsWish, WantsDown, WantsUp}
use Rattle.nuc_class.specs.declared.wishes.Wish.{Wish}
use Rattle.nuc_class.specs.declared.wishes.Wish.TheVariants as wish
use Rattle.nuc_conflict.specs.Search.{IsTopmostThere, IsTopmostBefore, IsTopmostSoFar}
use Rattle.nuc_conflict.specs.Topmost.{NoSplit, IsLeastSplit, IsTopmost}
use Rattle.nuc_conflict.specs.declared.topmost.Found.{Found}

-- what needs a split stands in Remote and in Local
split_values : (same : ℕ → ℕ → Bool) (r l s : Option Node) → IsTrue (needs_split same r l s) → ((n : Node) × (r ≡ Some n)) × ((n : Node) × (l ≡ Some n))
split_values same (Some r) (Some l) s t = ((r, refl), (l, refl))
split_values same (Some r) None s t = absurd (cc)
split_values same None l s t = absurd (cc)

-- what wishes Down stands in Remote
down_value : (same : ℕ → ℕ → Bool) (Goes : Type 0) (r l s : Option Node) → WantsDown same Goes r l s → (n : Node) × (r ≡ Some n)
down_value same Goes (Some r) l s wants = (r, refl)
down_value same Goes None l s wants = absurd wants

-- what wishes Up stands in Local
up_value : (Goes : Type 0) (r l s : Option Node) → WantsUp Goes r l s → (n : Node) × (l ≡ Some n)
up_value Goes r (Some l) s wants = (l, refl)
up_value Goes (Some r) None s wants = absurd wants
up_value Goes None None s wants = absurd wants

-- each position below the number of nodes has an identity
pub past_end : (m : Nodes) (i : ℕ) → i < len m → slice_get (keys m) i ≡ None → ⊥
past_end m i below none = let at = nth_within m i below in absurd (let both : None ≡ Some at.0 = sym none ∙ at.1 in cc)

module _ (same : ℕ → ℕ → Bool) (r l s : Nodes) where
  abbrev Wishes : ℕ → Wish → Type 0
  Wishes x w = IsWish same r l s x w

  pub split_there : (x : ℕ) → IsWish same r l s x wish.Split → IsThere r x × IsThere l x
  split_there x wished = split_values same (get r x) (get l x) (get s x) wished

  pub down_there : (x : ℕ) → IsWish same r l s x wish.Down → IsThere r x
  down_there x wished = down_value same _ (get r x) (get l x) (get s x) wished

  pub up_there : (x : ℕ) → IsWish same r l s x wish.Up → IsThere l x
  up_there x wished = up_value _ (get r x) (get l x) (get s x) wished

  abbrev pub NoneBefore : Nodes → Wish → ℕ → Type 0
  NoneBefore m w i = (j y : ℕ) → j < i → slice_get (keys m) j ≡ Some y → ¬ (IsWish same r l s y w)

  -- no split at any position
  pub no_split : NoneBefore r wish.Split (len r) → NoSplit same r l s
  no_split none x wished =
      let at = nth_of r x (split_there x wished).0 in
      none at.0 x at.1 at.2 wished

  -- the first split by position
  pub least_split : (i x : ℕ) → slice_get (keys r) i ≡ Some x → IsWish same r l s x wish.Split → NoneBefore r wish.Split i → IsLeastSplit same r l s x
  least_split i x at wished none = record {
    wished = wished;
    least = λ y too.
        let place = nth_of r y (split_there y too).0 in
        elim (cases_lt place.0 i) [
          | inl before ↦ absurd (none place.0 y before place.2 too)
          | inr after ↦ elim (same_or_not i place.0) [
            | inl here ↦ let one : x ≡ y = same_Some x y (sym at ∙ subst (λ k. slice_get (keys r) k ≡ Some y) (sym here) place.2) in omega (arith, one)
            | inr apart ↦ let less : x < y = nth_rises r i place.0 x y (omega (arith, after, apart)) at place.2 in omega (arith, less)
          ]
        ];
  }

  pub one_more : (m : Nodes) (w : Wish) (i x : ℕ) → slice_get (keys m) i ≡ Some x → ¬ (IsWish same r l s x w) → NoneBefore m w i → NoneBefore m w (i + 1)
  one_more m w i x at not_here none j y below there wished = elim (same_or_not j i) [
    | inl here ↦
        let one : y ≡ x = same_Some y x (sym there ∙ subst (λ k. slice_get (keys m) k ≡ Some x) (sym here) at) in
        not_here (subst (λ z. IsWish same r l s z w) one wished)
    | inr apart ↦ none j y (omega (arith, below, apart)) there wished
  ]

  -- one that doesn't wish it is passed by
  pub topmost_passed : (m : Nodes) (w : Wish) (i x : ℕ) (best : Option Found) → slice_get (keys m) i ≡ Some x → ¬ (IsWish same r l s x w)
      → IsTopmostSoFar same r l s m w i best → IsTopmostSoFar same r l s m w (i + 1) best
  topmost_passed m w i x None at not_here none = one_more m w i x at not_here none
  topmost_passed m w i x (Some found) at not_here so_far = record {
    wished = so_far.wished;
    position = so_far.position;
    within = (let within = so_far.within in omega (arith, within));
    at = so_far.at;
    deep = so_far.deep;
    first = λ j y below there wished. elim (same_or_not j i) [
      | inl here ↦
          let one : y ≡ x = same_Some y x (sym there ∙ subst (λ k. slice_get (keys m) k ≡ Some x) (sym here) at) in
          absurd (not_here (subst (λ z. IsWish same r l s z w) one wished))
      | inr apart ↦ so_far.first j y (omega (arith, below, apart)) there wished
    ];
  }

  kept : (m : Nodes) (w : Wish) (i x d : ℕ) (found : Found) → WellFormed m → slice_get (keys m) i ≡ Some x → Steps m 0 x d
      → found.depth ≤ d → IsTopmostSoFar same r l s m w i (Some found) → IsTopmostSoFar same r l s m w (i + 1) (Some found)
  kept m w i x d found form at deep high so_far = record {
    wished = so_far.wished;
    position = so_far.position;
    within = (let within = so_far.within in omega (arith, within));
    at = so_far.at;
    deep = so_far.deep;
    first = λ j y below there wished. elim (same_or_not j i) [
      | inl here ↦
          let one : y ≡ x = same_Some y x (sym there ∙ subst (λ k. slice_get (keys m) k ≡ Some x) (sym here) at) in
          subst (λ z. Precedes m found.id.0 z) (sym one) (λ a b up down.
          let first : a ≡ found.depth = one_depth m found.id.0 a found.depth form up so_far.deep in
          let second : b ≡ d = one_depth m x b d form down deep in
          let less : found.id.0 < x = nth_rises m so_far.position i found.id.0 x so_far.within so_far.at at in
          elim (cases_lt found.depth d) [
            | inl higher ↦ inl (omega (arith, first, second, higher))
            | inr no_higher ↦ inr (omega (arith, first, second, high, no_higher), omega (arith, less))
          ])
      | inr apart ↦ so_far.first j y (omega (arith, below, apart)) there wished
    ];
  }

  -- one that stands no higher is passed by
  pub topmost_kept : (m : Nodes) (w : Wish) (i x d : ℕ) (best : Option Found) → WellFormed m → slice_get (keys m) i ≡ Some x → Steps m 0 x d
      → IsSomeAnd best (λ found. found.depth ≤ d) → IsTopmostSoFar same r l s m w i best → IsTopmostSoFar same r l s m w (i + 1) best
  topmost_kept m w i x d None form at deep high so_far = absurd high
  topmost_kept m w i x d (Some found) form at deep high so_far = kept m w i x d found form at deep high so_far

  earlier : (m : Nodes) (w : Wish) (i x d : ℕ) (best : Option Found) → WellFormed m → Steps m 0 x d → IfSome best (λ found. d < found.depth)
      → IsTopmostSoFar same r l s m w i best → (j y : ℕ) → j < i → slice_get (keys m) j ≡ Some y → IsWish same r l s y w → Precedes m x y
  earlier m w i x d None form deep high none j y below there wished = absurd (none j y below there wished)
  earlier m w i x d (Some found) form deep high so_far j y below there wished = λ a b up down.
      let first : a ≡ d = one_depth m x a d form up deep in
      elim (so_far.first j y below there wished found.depth b so_far.deep down) [
        | inl less ↦ inl (omega (arith, first, high, less))
        | inr (even, least) ↦ inl (omega (arith, first, high, even))
      ]

  -- one that stands higher than all before is the topmost
  pub topmost_new : (m : Nodes) (w : Wish) (i : ℕ) (found : Found) (best : Option Found) → WellFormed m → slice_get (keys m) i ≡ Some found.id.0
      → IsWish same r l s found.id.0 w → Steps m 0 found.id.0 found.depth → IfSome best (λ other. found.depth < other.depth)
      → IsTopmostSoFar same r l s m w i best → IsTopmostBefore same r l s m w (i + 1) found
  topmost_new m w i found best form at wished deep high so_far = record {
    wished = wished;
    position = i;
    within = omega arith;
    at = at;
    deep = deep;
    first = λ j y below there too. elim (same_or_not j i) [
      | inl here ↦
          let one : found.id.0 ≡ y = same_Some found.id.0 y (sym at ∙ subst (λ k. slice_get (keys m) k ≡ Some y) here there) in
          subst (λ z. Precedes m found.id.0 z) one (λ a b up down. inr (one_depth m found.id.0 a b form up down, omega arith))
      | inr apart ↦ earlier m w i found.id.0 found.depth best form deep high so_far j y (omega (arith, below, apart)) there too
    ];
  }

  -- at the end it is the topmost of all
  topmost_of_all : (m : Nodes) (w : Wish) (found : Found) → IsTopmostBefore same r l s m w (len m) found → IsTopmostThere same r l s m w found.id.0
  topmost_of_all m w found before = record {
    wished = before.wished;
    there = nth_there m before.position found.id.0 before.at;
    first = λ y there wished. let at = nth_of m y there in before.first at.0 y at.1 at.2 wished;
  }

  none_of_all : (m : Nodes) (w : Wish) → NoneBefore m w (len m) → (x : ℕ) → IsThere m x → ¬ (IsWish same r l s x w)
  none_of_all m w none x there wished = let at = nth_of m x there in none at.0 x at.1 at.2 wished

  pub topmost_found : (m : Nodes) (w : Wish) (i : ℕ) (best : Option Found) (found : Found) → i ≡ len m → best ≡ Some found
      → IsTopmostSoFar same r l s m w i best → IsTopmostThere same r l s m w found.id.0
  topmost_found m w i best found all is so_far =
      topmost_of_all m w found (subst (λ o. IsTopmostSoFar same r l s m w (len m) o) is (subst (λ k. IsTopmostSoFar same r l s m w k best) all so_far))

  pub none_found : (m : Nodes) (w : Wish) (i : ℕ) (best : Option Found) → i ≡ len m → best ≡ None
      → IsTopmostSoFar same r l s m w i best → (x : ℕ) → IsThere m x → ¬ (IsWish same r l s x w)
  none_found m w i best all is so_far =
      none_of_all m w (subst (λ o. IsTopmostSoFar same r l s m w (len m) o) is (subst (λ k. IsTopmostSoFar same r l s m w k best) all so_far))

  pub topmost_down : (x : ℕ) → IsTopmostThere same r l s r wish.Down x → IsTopmost same r l s r wish.Down x
  topmost_down x top = record { wished = top.wished; first = λ y wished. top.first y (down_there y wished) wished }

  pub topmost_up : (x : ℕ) → IsTopmostThere same r l s l wish.Up x → IsTopmost same r l s l wish.Up x
  topmost_up x top = record { wished = top.wished; first = λ y wished. top.first y (up_there y wished) wished }

  -- there is one topmost
  pub one_topmost : (m : Nodes) (w : Wish) (x y : ℕ) → WellFormed m → IsThere m x → IsThere m y → IsTopmost same r l s m w x → IsTopmost same r l s m w y → x ≡ y
  one_topmost m w x y form (n, at) (k, there) top too =
      let deep = depth_of m x n form at in
      let other = depth_of m y k form there in
      elim (top.first y too.wished deep.0 other.0 deep.1 other.1) [
        | inl less ↦ elim (too.first x top.wished other.0 deep.0 other.1 deep.1) [
          | inl more ↦ absurd (omega (arith, less, more))
          | inr (even, below) ↦ absurd (omega (arith, less, even))
        ]
        | inr (even, below) ↦ elim (too.first x top.wished other.0 deep.0 other.1 deep.1) [
          | inl more ↦ absurd (omega (arith, even, more))
          | inr (same_depth, above) ↦ omega (arith, below, above)
        ]
      ]
