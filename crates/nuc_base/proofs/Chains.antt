-- Chains of parents, before and after a change of the map.
use Rattle.std.proofs.Common.{◌≡◌, ◌≢◌, ◌⊎◌, ◌≤◌, ◌+◌, ◌-◌, ℕ, zero, suc, cond, Some, None, refl, sym, ap, subst, ◌∙◌, inl, inr, arith}
use Rattle.std.specs.Option.{is_some}
use Rattle.std.specs.FinMap.{get, insert, remove, len, empty, len-remove, empty_of_len, get-empty}
use Rattle.std.specs.Ordering.{nat_cmp}
use Rattle.std.proofs.lemmas.Cmp.{nat_cmp_total}
use Rattle.nuc_base.specs.Trees.{Nodes, Steps, IsUnder, NoChild}
use Rattle.nuc_base.specs.Trees.Under.{here, up}
use Rattle.nuc_base.specs.Trees.Steps.{done, step}
use Rattle.nuc_base.specs.declared.node.Node.{Node}
use Rattle.nuc_base.proofs.Maps.{same_or_not, one_node, not_both, get_put_other, get_cut_other, get_cut_same, after_cut}

pub under_trans : (m : Nodes) (b a c : ℕ) → IsUnder m a b → IsUnder m b c → IsUnder m a c
under_trans m b a c here u = u
under_trans m b a c (up x n e v) u = up x n e (under_trans m b n.place.parent.0 c v u)

-- after a put a chain leads where it led, or to the identity that was put
pub under_put : (m : Nodes) (x : ℕ) (node : Node) (b a : ℕ) → IsUnder m a b → IsUnder (insert m x node) a b ⊎ IsUnder (insert m x node) a x
under_put m x node b a here = inl here
under_put m x node b a (up y n e v) = elim (same_or_not y x) [
  | inl s ↦ inr (rw s here)
  | inr apart ↦ elim (under_put m x node b n.place.parent.0 v) [
    | inl u ↦ inl (up y n (get_put_other m x node y apart ∙ e) u)
    | inr u ↦ inr (up y n (get_put_other m x node y apart ∙ e) u)
  ]
]

-- and before it
pub under_before_put : (m : Nodes) (x : ℕ) (node : Node) (b a : ℕ) → IsUnder (insert m x node) a b → IsUnder m a b ⊎ IsUnder m a x
under_before_put m x node b a here = inl here
under_before_put m x node b a (up y n e v) = elim (same_or_not y x) [
  | inl s ↦ inr (rw s here)
  | inr apart ↦ elim (under_before_put m x node b n.place.parent.0 v) [
    | inl u ↦ inl (up y n (sym (get_put_other m x node y apart) ∙ e) u)
    | inr u ↦ inr (up y n (sym (get_put_other m x node y apart) ∙ e) u)
  ]
]

-- after a cut a chain leads where it led, or to the identity that was cut
pub under_cut : (m : Nodes) (x b a : ℕ) → IsUnder m a b → IsUnder (remove m x) a b ⊎ IsUnder (remove m x) a x
under_cut m x b a here = inl here
under_cut m x b a (up y n e v) = elim (same_or_not y x) [
  | inl s ↦ inr (rw s here)
  | inr apart ↦ elim (under_cut m x b n.place.parent.0 v) [
    | inl u ↦ inl (up y n (get_cut_other m x y apart ∙ e) u)
    | inr u ↦ inr (up y n (get_cut_other m x y apart ∙ e) u)
  ]
]

pub under_before_cut : (m : Nodes) (x b a : ℕ) → IsUnder (remove m x) a b → IsUnder m a b
under_before_cut m x b a here = here
under_before_cut m x b a (up y n e v) = up y n (after_cut m x y n e).1 (under_before_cut m x b n.place.parent.0 v)

-- nobody else stands below an identity without children
pub under_childless : (m : Nodes) (x a : ℕ) → NoChild m x → IsUnder m a x → a ≡ x
under_childless m x a none here = refl
under_childless m x a none (up y n e v) = absurd (none y n e (under_childless m x n.place.parent.0 none v))

pub steps_before_cut : (m : Nodes) (x b a k : ℕ) → Steps (remove m x) b a k → Steps m b a k
steps_before_cut m x b a k done = done
steps_before_cut m x b a k (step y j n e s) = step y j n (after_cut m x y n e).1 (steps_before_cut m x b n.place.parent.0 j s)

pub under_of_steps : (m : Nodes) (b a k : ℕ) → Steps m b a k → IsUnder m a b
under_of_steps m b a k done = here
under_of_steps m b a k (step y j n e s) = up y n e (under_of_steps m b n.place.parent.0 j s)

-- a chain that isn't at its end goes on at the parent
pub next_step : (m : Nodes) (b a k : ℕ) (n : Node) → Steps m b a k → a ≢ b → get m a ≡ Some n → (j : ℕ) × Steps m b n.place.parent.0 j × (k ≡ suc j)
next_step m b a k n done apart e = absurd (apart refl)
next_step m b a k n (step y j q f s) apart e = (j, subst (λ (r : Node). Steps m b r.place.parent.0 j) (one_node m y q n f e) s, refl)

pub no_step : (m : Nodes) (b a k : ℕ) → Steps m b a k → k ≡ 0 → a ≡ b
no_step m b a k done e = refl
no_step m b a k (step y j n f s) e = absurd (omega arith)

-- a chain that goes on, goes on without coming back to x
Leaves : (m : Nodes) (b x : ℕ) → Type 0
Leaves m b x = (b ≡ x) ⊎ ((n : Node) × (get m x ≡ Some n) × IsUnder (remove m x) n.place.parent.0 b)

passes : (m : Nodes) (x b a : ℕ) → IsUnder m a b → IsUnder (remove m x) a b ⊎ Leaves m b x
unfolding Leaves
passes m x b a here = inl here
passes m x b a (up y n e v) = elim (passes m x b n.place.parent.0 v) [
  | inl u ↦ elim (same_or_not y x) [
    | inl s ↦ inr (inr (n, rw (← s) e, u))
    | inr apart ↦ inl (up y n (get_cut_other m x y apart ∙ e) u)
  ]
  | inr l ↦ inr l
]

nowhere : (m : Nodes) (b x : ℕ) → get m x ≡ None → IsUnder m x b → b ≡ x
nowhere m b x none here = refl
nowhere m b x none (up y n e v) = absurd (not_both m y n none e)

leaves : (m : Nodes) (b x : ℕ) → IsUnder m x b → Leaves m b x
unfolding Leaves
leaves m b x u = elim (passes m x b x u) [
  | inl v ↦ inl (nowhere (remove m x) b x (get_cut_same m x) v)
  | inr l ↦ l
]

-- one node fewer after the cut of one that is there
pub len_cut : (m : Nodes) (x : ℕ) (n : Node) → get m x ≡ Some n → len (remove m x) + 1 ≡ len m
len_cut m x n e =
    let less : len (remove m x) ≡ len m - 1 = len-remove nat_cmp_total m x ∙ ap (λ o. cond (is_some o) (len m - 1) (len m)) e in
    let more : len m ≢ 0 = λ z. not_both empty x n (get-empty nat_cmp x) (sym (ap (λ (k : Nodes). get k x) (empty_of_len m z)) ∙ e) in
    omega arith

short_within : (fuel : ℕ) (m : Nodes) (b a : ℕ) → len m ≤ fuel → IsUnder m a b → (k : ℕ) × Steps m b a k × (k ≤ len m)
unfolding Leaves
short_within zero m b a fits u = elim (leaves m b a u) [
  | inl s ↦ (0, rw s done, omega arith)
  | inr (n, e, v) ↦ let more = len_cut m a n e in absurd (omega arith)
]
short_within (suc fuel) m b a fits u = elim (leaves m b a u) [
  | inl s ↦ (0, rw s done, omega arith)
  | inr (n, e, v) ↦
      let more = len_cut m a n e in
      let rest = short_within fuel (remove m a) b n.place.parent.0 (omega arith) v in
      (suc rest.0, step a rest.0 n e (steps_before_cut m a b n.place.parent.0 rest.0 rest.1), (let bound = rest.2 in omega arith))
]

-- a chain has at most as many steps as there are nodes
pub short_chain : (m : Nodes) (b a : ℕ) → IsUnder m a b → (k : ℕ) × Steps m b a k × (k ≤ len m)
short_chain m b a u = short_within (len m) m b a (omega arith) u
