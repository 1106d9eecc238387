-- A set of identities is empty where none can be its least, its first or its lowest.
use Rattle.std.proofs.Common.{◌≡◌, ◌<◌, ◌≤◌, ◌+◌, ℕ, zero, suc, Some, sym, subst, inl, inr, arith}
use Rattle.std.proofs.lemmas.Bool.{cases_lt}
use Rattle.std.specs.FinMap.{get, len}
use Rattle.nuc_base.specs.Trees.{Nodes, IsThere, Steps, Precedes, WellFormed}
use Rattle.nuc_base.specs.Trees.Steps.{step}
use Rattle.nuc_base.specs.declared.node.Node.{Node}
use Rattle.nuc_base.proofs.Depths.{depth_of, one_depth, short_depth}

no_least_below : (P : ℕ → Type 0) (key : ℕ → ℕ) → ((x : ℕ) → P x → ((y : ℕ) → P y → key x ≤ key y) → ⊥) → (bound x : ℕ) → key x < bound → ¬ (P x)
no_least_below P key least zero x below p = absurd (omega (arith, below))
no_least_below P key least (suc bound) x below p = least x p (λ y q. elim (cases_lt (key y) (key x)) [
  | inl less ↦ absurd (no_least_below P key least bound y (omega (arith, less, below)) q)
  | inr no_less ↦ no_less
])

-- nobody is in a set where the one with the least key can't be
pub no_least : (P : ℕ → Type 0) (key : ℕ → ℕ) → ((x : ℕ) → P x → ((y : ℕ) → P y → key x ≤ key y) → ⊥) → (x : ℕ) → ¬ (P x)
no_least P key least x = no_least_below P key least (suc (key x)) x (omega arith)

-- x precedes y, where y stands neither less deep nor as deep with a smaller number
precedes : (m : Nodes) (x y d e : ℕ) → WellFormed m → Steps m 0 x d → Steps m 0 y e → (e < d → ⊥) → (e ≡ d → y < x → ⊥) → Precedes m x y
precedes m x y d e form s t not_less not_before j k u v =
    let same : j ≡ d = one_depth m x j d form u s in
    let too : k ≡ e = one_depth m y k e form v t in
    elim (cases_lt d e) [
      | inl less ↦ inl (omega (arith, same, too, less))
      | inr no_less ↦ elim (cases_lt e d) [
        | inl less ↦ absurd (not_less less)
        | inr no_more ↦ elim (cases_lt y x) [
          | inl before ↦ absurd (not_before (omega (arith, no_less, no_more)) before)
          | inr after ↦ inr (omega (arith, same, too, no_less, no_more), after)
        ]
      ]
    ]

module _ (m : Nodes) (P : ℕ → Type 0) (form : WellFormed m) (there : (x : ℕ) → P x → IsThere m x)
    (first : (x : ℕ) → P x → ((y : ℕ) → P y → Precedes m x y) → ⊥) where
  no_first_at : (d : ℕ) → ((y e : ℕ) → Steps m 0 y e → e < d → ¬ (P y))
      → (bound x : ℕ) → x < bound → Steps m 0 x d → ¬ (P x)
  no_first_at d higher zero x below s p = absurd (omega (arith, below))
  no_first_at d higher (suc bound) x below s p = first x p (λ y q.
      let node = there y q in
      let deep = depth_of m y node.0 form node.1 in
      precedes m x y d deep.0 form s deep.1 (λ less. higher y deep.0 deep.1 less q)
      (λ same before. no_first_at d higher bound y (omega (arith, before, below)) (subst (λ z. Steps m 0 y z) same deep.1) q))

  no_first_within : (bound x d : ℕ) → Steps m 0 x d → d < bound → ¬ (P x)
  no_first_within zero x d s below p = absurd (omega (arith, below))
  no_first_within (suc bound) x d s below p = no_first_at d
      (λ y e t less. no_first_within bound y e t (omega (arith, less, below))) (suc x) x (omega arith) s p

  -- nobody is in a set where the first, by its depth and then by its number, can't be
  pub no_first : (x : ℕ) → ¬ (P x)
  no_first x p =
      let node = there x p in
      let deep = depth_of m x node.0 form node.1 in
      no_first_within (suc deep.0) x deep.0 deep.1 (omega arith) p

module _ (m : Nodes) (P : ℕ → Type 0) (form : WellFormed m)
    (lowest : (x : ℕ) (n : Node) → get m x ≡ Some n → P x → ((y : ℕ) (k : Node) → get m y ≡ Some k → k.place.parent.0 ≡ x → ¬ (P y)) → ⊥) where
  no_lowest_from : (fuel x d : ℕ) (n : Node) → get m x ≡ Some n → Steps m 0 x d → len m < d + fuel → ¬ (P x)
  no_lowest_from zero x d n e s enough p = let short = short_depth m x d form s in absurd (omega (arith, short, enough))
  no_lowest_from (suc fuel) x d n e s enough p = lowest x n e p (λ y k there child.
      no_lowest_from fuel y (suc d) k there (step y d k there (subst (λ z. Steps m 0 z d) (sym child) s)) (omega (arith, enough)))

  -- nobody is in a set where one without children in it can't be
  pub no_lowest : (x : ℕ) (n : Node) → get m x ≡ Some n → ¬ (P x)
  no_lowest x n e = let deep = depth_of m x n form e in no_lowest_from (suc (len m)) x deep.0 n e deep.1 (omega arith)
