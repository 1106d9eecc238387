-- The walk from a folder up to the root, and what on it is astray.
use Rattle.std.proofs.Common.{◌≡◌, ◌≢◌, ◌⊎◌, ℕ, Option, Some, None, MatchOption, refl, sym, ap, subst, ◌∙◌, inl, inr}
use Rattle.std.specs.FinMap.{get}
use Rattle.nuc_base.specs.Trees.{Nodes, Alike, IsUnder, Steps, WellFormed}
use Rattle.nuc_base.specs.Trees.Under.{here, up}
use Rattle.nuc_base.specs.Trees.Steps.{done, step}
use Rattle.nuc_base.specs.declared.node.Node.{Node}
use Rattle.nuc_base.specs.declared.node.NodeId.{NodeId}
use Rattle.nuc_base.proofs.Alike.{under_alike}
use Rattle.nuc_base.proofs.Depths.{no_loop}
use Rattle.nuc_base.proofs.Maps.{one_node, not_both, same_or_not}
use Rattle.nuc_conflict.specs.Remedies.{IsAstray, IsBlocker}
use Rattle.nuc_conflict.specs.Walk.{IsHighestSoFar, IsHighest}

-- a chain from what isn't there has no steps
pub ended : (m : Nodes) (b a k : ℕ) → get m a ≡ None → Steps m b a k → k ≡ 0
ended m b a k gone done = refl
ended m b a k gone (step y j n e s) = absurd (not_both m y n gone e)

pub node_below_root : (m : Nodes) (x : ℕ) (n : Node) → WellFormed m → get m x ≡ Some n → x ≢ 0
node_below_root m x n form at root = not_both m 0 n form.no_root (subst (λ z. get m z ≡ Some n) root at)

-- the chain of what isn't there is the same in every tree
pub alike_absent : (m k : Nodes) (q : ℕ) → get m q ≡ None → Alike m k q
alike_absent m k q gone a n here e = absurd (not_both m q n gone e)
alike_absent m k q gone a n (up y h f u) e = absurd (not_both m y h gone f)

astray_or_not : (n : Node) (own : Option Node) → ¬ (IsAstray n own) → (h : Node) × (own ≡ Some h) × (h.place.parent.0 ≡ n.place.parent.0)
astray_or_not n None fine = absurd (fine tt)
astray_or_not n (Some h) fine = elim (same_or_not h.place.parent.0 n.place.parent.0) [
  | inl same ↦ (h, refl, same)
  | inr apart ↦ absurd (fine apart)
]

-- the chain of what isn't astray is the same as far as its parent's is
pub alike_up : (m k : Nodes) (q : ℕ) (n : Node) → get m q ≡ Some n → ¬ (IsAstray n (get k q)) → Alike m k n.place.parent.0 → Alike m k q
alike_up m k q n at fine above a h here e =
    let own = astray_or_not n (get k q) fine in
    (own.0, own.1, own.2 ∙ ap (λ (r : Node). r.place.parent.0) (one_node m q n h at e))
alike_up m k q n at fine above a h (up y g f u) e =
    above a h (subst (λ (r : Node). IsUnder m r.place.parent.0 a) (one_node m y g n f at) u) e

module _ (r l : Nodes) (q : ℕ) where
  -- one step up, where what stands there is astray
  pub step_astray : (at : NodeId) (n : Node) → get r at.0 ≡ Some n → IsUnder r q at.0 → IsAstray n (get l at.0)
      → IsHighest r l q n.place.parent.0 at
  step_astray at n there under astray = record { node = n; above = under; there = there; astray = astray; rest = λ alike. alike }

  -- and where it isn't
  pub step_fine : (at : ℕ) (n : Node) (found : Option NodeId) → get r at ≡ Some n → ¬ (IsAstray n (get l at))
      → IsHighestSoFar r l q at found → IsHighestSoFar r l q n.place.parent.0 found
  step_fine at n None there fine rest = λ alike. rest (alike_up r l at n there fine alike)
  step_fine at n (Some m) there fine highest = record {
    node = highest.node;
    above = highest.above;
    there = highest.there;
    astray = highest.astray;
    rest = λ alike. highest.rest (alike_up r l at n there fine alike);
  }

  -- one step up, of what was the highest so far
  pub step_up : (at : NodeId) (n : Node) (own : Option Node) (before after : Option NodeId) → get r at.0 ≡ Some n → IsUnder r q at.0
      → own ≡ get l at.0 → (IsAstray n own × (after ≡ Some at)) ⊎ (¬ (IsAstray n own) × (after ≡ before))
      → IsHighestSoFar r l q at.0 before → IsHighestSoFar r l q n.place.parent.0 after
  step_up at n own before after there under has (inl (astray, is)) highest =
      subst (λ o. IsHighestSoFar r l q n.place.parent.0 o) (sym is) (step_astray at n there under (subst (IsAstray n) has astray))
  step_up at n own before after there under has (inr (fine, is)) highest =
      subst (λ o. IsHighestSoFar r l q n.place.parent.0 o) (sym is) (step_fine at.0 n before there (subst (λ o. ¬ (IsAstray n o)) has fine) highest)

  -- at the root the highest is known
  pub walk_ended : (at : ℕ) (found : Option NodeId) → get r at ≡ None → IsHighestSoFar r l q at found
      → MatchOption found (Alike r l q) (λ m. (n : Node) × IsBlocker r l q m.0 n)
  walk_ended at None gone rest = rest (alike_absent r l at gone)
  walk_ended at (Some m) gone highest =
      (highest.node, record { above = highest.above; there = highest.there; astray = highest.astray; highest = highest.rest (alike_absent r l at gone) })

-- where x stands above its own new parent in Local, something is astray
pub some_astray : (r l : Nodes) (x : ℕ) (n : Node) → WellFormed r → WellFormed l → get r x ≡ Some n → IsUnder l n.place.parent.0 x
    → ¬ (Alike r l n.place.parent.0)
some_astray r l x n form other at cycle alike =
    no_loop r x n form at (under_alike r l x n.place.parent.0 form other.no_root (form.parents x n at) alike cycle)
