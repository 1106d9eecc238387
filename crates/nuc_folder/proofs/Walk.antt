-- How far a walk down a folder can lead.
use Rattle.std.proofs.Common.{◌≡◌, ◌≢◌, ◌<◌, ◌≤◌, ◌+◌, ◌-◌, ℕ, suc, Some, sym, subst, arith}
use Rattle.std.specs.FinMap.{get, len}
use Rattle.nuc_base.specs.Trees.{Nodes, Steps, WellFormed}
use Rattle.nuc_base.specs.declared.node.Node.{Node}
use Rattle.nuc_base.proofs.Chains.{next_step}
use Rattle.nuc_base.proofs.Depths.{depth_of}
use Rattle.nuc_base.proofs.Maps.{not_both}

-- no chain from the root to x, and on from there by so many steps, is longer than the number of nodes
abbrev pub HasRoom : Nodes → ℕ → ℕ → Type 0
HasRoom m x left = (k : ℕ) → Steps m 0 x k → len m < k + left

module _ (m : Nodes) (x left y : ℕ) (h : Node) (form : WellFormed m) (room : HasRoom m x left) (there : get m y ≡ Some h) (parent : h.place.parent.0 ≡ x) where
  not_root : y ≢ 0
  not_root root = not_both m 0 h form.no_root (subst (λ z. get m z ≡ Some h) root there)

  -- a way to y is one to x and a step
  way : (k : ℕ) → Steps m 0 y k → (j : ℕ) × Steps m 0 x j × (k ≡ suc j)
  way k steps =
      let rest = next_step m 0 y k h steps not_root there in
      (rest.0, subst (λ z. Steps m 0 z rest.0) parent rest.1, rest.2)

  pub some_left : 1 ≤ left
  some_left =
      let depth = depth_of m y h form there in
      let up = way depth.0 depth.1 in
      let bound = room up.0 up.1 in
      let short = depth.2 in
      let one = up.2 in
      omega (arith, bound, short, one)

  pub room_below : HasRoom m y (left - 1)
  room_below k steps =
      let up = way k steps in
      let bound = room up.0 up.1 in
      let one = up.2 in
      omega (arith, bound, one, some_left)
