-- The potential, added up on the walk.
use Rattle.std.proofs.Common.{◌≡◌, ◌+◌, ◌-◌, ◌^◌, ℕ, suc, Bool, min, refl, sym, ap, ◌∙◌, arith}
use Rattle.nuc_base.specs.Trees.{Nodes}
use Rattle.nuc_plan.specs.Walk.{AllPassed, IsNext}
use Rattle.nuc_measure.specs.Potential.{IsPotential, no_flight, points}
use Rattle.nuc_measure.specs.Totals.{total}
use Rattle.nuc_measure.proofs.Carried.{points_nowhere}
use Rattle.nuc_measure.proofs.Counting.{not_between, passed_below}
use Rattle.nuc_measure.proofs.Totals.{total_gap}

-- what passes the end stays there
end_stays : (a b e : ℕ) → min (min a e + b) e ≡ min (a + b) e
end_stays a b e = grind (arith)

module _ (same : ℕ → ℕ → Bool) (r l s : Nodes) where
  pub add_one : (below x sum after : ℕ) → IsNext r l s below x → sum ≡ min (total below (points same no_flight r l s)) (2 ^ 64 - 1)
      → after ≡ min (sum + points same no_flight r l s x) (2 ^ 64 - 1) → after ≡ min (total (suc x) (points same no_flight r l s)) (2 ^ 64 - 1)
  add_one below x sum after next was is =
      let stays : total x (points same no_flight r l s) ≡ total below (points same no_flight r l s) =
      total_gap below x (points same no_flight r l s) next.from
      (λ y low high. points_nowhere same r l s no_flight y refl (not_between r l s below x y next low high)) in
      is ∙ ap (λ k. min (k + points same no_flight r l s x) (2 ^ 64 - 1)) was
      ∙ end_stays (total below (points same no_flight r l s)) (points same no_flight r l s x) (2 ^ 64 - 1)
      ∙ ap (λ k. min (k + points same no_flight r l s x) (2 ^ 64 - 1)) (sym stays)

  pub all_added : (below sum k : ℕ) → AllPassed r l s below → sum ≡ min (total below (points same no_flight r l s)) (2 ^ 64 - 1)
      → IsPotential same r l s k → sum ≡ min k (2 ^ 64 - 1)
  all_added below sum k passed was is = was ∙ ap (λ t. min t (2 ^ 64 - 1)) (is below (passed_below r l s below passed))
