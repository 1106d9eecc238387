-- Going, seen from the children at their positions, and how far a walk down a tree can lead.
use Rattle.std.proofs.Common.{◌≡◌, ◌≢◌, ◌<◌, ◌≤◌, ◌+◌, ◌-◌, ℕ, List, length, Option, None, Some, sym, ap, subst, ◌∙◌, inl, inr, arith, refl}
use Rattle.std.specs.List.{slice_get}
use Rattle.std.specs.FinMap.{get, len}
use Rattle.std.proofs.lemmas.Option.{same_Some, slice_get_cases}
use Rattle.nuc_base.specs.Trees.{Nodes, Steps, WellFormed, children}
use Rattle.nuc_base.specs.declared.node.Node.{Node}
use Rattle.nuc_base.proofs.Chains.{next_step, no_step}
use Rattle.nuc_base.proofs.Children.{child_of}
use Rattle.nuc_base.proofs.Depths.{depth_of}
use Rattle.nuc_base.proofs.Maps.{not_both, same_or_not}
use Rattle.nuc_class.specs.Going.{Going, IsKept}
use Rattle.nuc_class.specs.Going.Going.{going}

pub kept_parts : (other own s : Option Node) → IsKept other own s → (other ≡ None) × (n : Node) × (own ≡ Some n) × (s ≡ Some n)
kept_parts None (Some n) (Some s) e = (refl, n, refl, ap Some (sym e))
kept_parts None (Some n) None e = absurd e
kept_parts None None s e = absurd e
kept_parts (Some o) own s e = absurd e

-- no position from i on has an element
pub at_end : (xs : List ℕ) (i : ℕ) → slice_get xs i ≡ None → length xs ≤ i
at_end xs i none = elim (slice_get_cases xs i).1 [
  | inl (x, below, at, e) ↦ absurd (let both : None ≡ Some x = sym none ∙ at in cc)
  | inr (past, e) ↦ past
]

module _ (other own s : Nodes) (Spared : ℕ → Type 0) where
  pub going-kept : (x : ℕ) → Going other own s Spared x → IsKept (get other x) (get own x) (get s x)
  going-kept _ (going x kept below) = kept

  pub going-child : (x y : ℕ) (n : Node) → Going other own s Spared x → get own y ≡ Some n → n.place.parent.0 ≡ x → ¬ (Spared y)
      → Going other own s Spared y
  going-child _ y n (going x kept below) at parent not_spared = below y n at parent not_spared

  -- each child at a position before i is spared or goes
  abbrev pub GoBefore : ℕ → ℕ → Type 0
  GoBefore x i = (j y : ℕ) → j < i → slice_get (children own x) j ≡ Some y → ¬ (Spared y) → Going other own s Spared y

  pub going_of_children : (x i : ℕ) → IsKept (get other x) (get own x) (get s x) → GoBefore x i → length (children own x) ≤ i
      → Going other own s Spared x
  going_of_children x i kept each all = going x kept (λ y n at parent not_spared.
      let row = child_of own x y n at parent in
      each row.0 y (let below = row.1 in omega (arith, below, all)) row.2 not_spared)

  -- one child more
  pub go_more : (x i y : ℕ) → slice_get (children own x) i ≡ Some y → (¬ (Spared y) → Going other own s Spared y) → GoBefore x i → GoBefore x (i + 1)
  go_more x i y at goes before j z below there not_spared = elim (same_or_not j i) [
    | inl same ↦
        let one : y ≡ z = same_Some y z (sym at ∙ subst (λ k. slice_get (children own x) k ≡ Some z) same there) in
        subst (λ q. Going other own s Spared q) one (goes (subst (λ q. ¬ (Spared q)) (sym one) not_spared))
    | inr other_one ↦ before j z (omega (arith, below, other_one)) there not_spared
  ]

-- no chain from the root to x, and on from there by so many steps, is longer than the number of nodes
abbrev pub HasRoom : Nodes → ℕ → ℕ → Type 0
HasRoom m x left = (k : ℕ) → 0 < k → Steps m 0 x k → len m < k + left

module _ (m : Nodes) (x left : ℕ) (n : Node) (form : WellFormed m) (at : get m x ≡ Some n) (room : HasRoom m x left) where
  not_root : x ≢ 0
  not_root root = not_both m 0 n form.no_root (subst (λ z. get m z ≡ Some n) root at)

  deep : (k : ℕ) → Steps m 0 x k → 0 < k
  deep k steps = omega (arith, λ (none : k ≡ 0). not_root (no_step m 0 x k steps none))

  pub some_left : 1 ≤ left
  some_left =
      let depth = depth_of m x n form at in
      let bound = room depth.0 (deep depth.0 depth.1) depth.1 in
      let short = depth.2 in
      omega (arith, bound, short)

  pub room_below : (y : ℕ) (h : Node) → get m y ≡ Some h → h.place.parent.0 ≡ x → HasRoom m y (left - 1)
  room_below y h there parent k some steps =
      let root : y ≢ 0 = λ e. not_both m 0 h form.no_root (subst (λ z. get m z ≡ Some h) e there) in
      let rest = next_step m 0 y k h steps root there in
      let up : Steps m 0 x rest.0 = subst (λ z. Steps m 0 z rest.0) parent rest.1 in
      let bound = room rest.0 (deep rest.0 up) up in
      let one = rest.2 in
      omega (arith, bound, one, some_left)
