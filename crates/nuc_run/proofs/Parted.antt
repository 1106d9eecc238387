-- A run of two lists of tasks ends within the first, or comes to the second.
use Rattle.std.proofs.Common.{◌≡◌, ◌++◌, List, [], ◌∷◌, sym, ◌∙◌, ap, subst, append_assoc}
use Rattle.nuc_sync.specs.Runs.{Moves, Runs, goes, stays}
use Rattle.nuc_sync.specs.Tasks.{Task}
use Rattle.nuc_world.specs.World.{WorldData}

pub data Parts (w : WorldData) (a b : List Task) (v : WorldData) (left : List Task) : Type 0 where
  within : (rest : List Task) → Runs w a v rest → Parts w a b v left
  beyond : (u : WorldData) → Runs w a u [] → Runs u b v left → Parts w a b v left

pub parted : (w : WorldData) (ts : List Task) (v : WorldData) (left : List Task) → Runs w ts v left → (a b : List Task) → ts ≡ a ++ b → Parts w a b v left
parted w ts v left (stays x y) [] b is = beyond x (stays x []) (subst (λ (zs : List Task). Runs x zs x y) is (stays x y))
parted w ts v left (stays x y) (t ∷ a) b is = within (t ∷ a) (stays x (t ∷ a))
parted w ts v left (goes x t later asked u y rest moves run) [] b is =
    beyond x (stays x []) (subst (λ (zs : List Task). Runs x zs y rest) is (goes x t later asked u y rest moves run))
parted w ts v left (goes x t later asked u y rest moves run) (s ∷ a) b is =
    let both : t ∷ later ≡ s ∷ (a ++ b) = is in
    let first : t ≡ s = cc in
    let others : later ≡ a ++ b = cc in
    let moved : Moves s x asked u = subst (λ (z : Task). Moves z x asked u) first moves in
    elim (parted u (asked ++ later) y rest run (asked ++ a) b (ap (λ (zs : List Task). asked ++ zs) others ∙ sym (append_assoc asked a b))) [
      | within still first_run ↦ within still (goes x s a asked u y still moved first_run)
      | beyond z first_run more ↦ beyond z (goes x s a asked u z [] moved first_run) more
    ]
