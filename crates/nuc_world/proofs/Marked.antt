-- When a client is done.
use Rattle.std.proofs.Common.{◌≡◌, ◌≢◌, ℕ, List, [], ◌∷◌, length, refl, sym, ◌∙◌, ap, subst, arith}
use Rattle.nuc_base.specs.Trees.{Nodes}
use Rattle.nuc_measure.specs.Differing.{IsDiffering}
use Rattle.nuc_measure.proofs.Counting.{one_count}
use Rattle.nuc_step.specs.Client.{ClientState}
use Rattle.nuc_world.specs.Marks.{IsQuiet}

none_there : {A : Type 0} (xs : List A) → length xs ≡ 0 → xs ≡ []
none_there [] is = refl
none_there (x ∷ xs) is = absurd (omega (arith, is))

-- the count is that of the client's trees
pub counted : (c : ClientState) (r l s : Nodes) (k : ℕ) → r ≡ c.remote.tree → l ≡ c.local.tree → s ≡ c.synced → IsDiffering r l s k
    → IsDiffering c.remote.tree c.local.tree c.synced k
counted c r l s k remote local synced is =
    let first = subst (λ m. IsDiffering m l s k) remote is in
    let second = subst (λ m. IsDiffering c.remote.tree m s k) local first in
    subst (λ m. IsDiffering c.remote.tree c.local.tree m k) synced second

module _ (c : ClientState) (k n : ℕ) (is : IsDiffering c.remote.tree c.local.tree c.synced k) (flying : n ≡ length c.flights) where
  pub is_quiet : n ≡ 0 → k ≡ 0 → IsQuiet c
  is_quiet none same =
      let equal = (one_count c.remote.tree c.local.tree c.synced).none.0 (subst (IsDiffering c.remote.tree c.local.tree c.synced) same is) in
      record {
        landed = none_there c.flights (sym flying ∙ none);
        remote = equal.0 ∙ equal.1;
        local = equal.1;
      }

  -- something is in flight
  pub is_flying : n ≢ 0 → ¬ (IsQuiet c)
  is_flying some quiet = some (flying ∙ ap length quiet.landed)

  -- identities differ
  pub is_apart : k ≢ 0 → ¬ (IsQuiet c)
  is_apart some quiet =
      let one = one_count c.remote.tree c.local.tree c.synced in
      some (one.one k 0 is (one.none.1 (quiet.remote ∙ sym quiet.local, quiet.local)))
