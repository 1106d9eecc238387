-- How deep an identity stands, and who is above it.
use Rattle.std.proofs.Common.{◌≡◌, ◌<◌, ◌≤◌, ◌+◌, ℕ, suc, Some, None, refl, sym, ap, subst, inl, inr, arith}
use Rattle.std.specs.FinMap.{get, len}
use Rattle.nuc_base.specs.Trees.{Nodes, IsFolder, IsUnder, Steps, Above, Precedes, WellFormed}
use Rattle.nuc_base.specs.Trees.Under.{here, up}
use Rattle.nuc_base.specs.Trees.Steps.{done, step}
use Rattle.nuc_base.specs.declared.node.Node.{Node}
use Rattle.nuc_base.proofs.Maps.{one_node, not_both}
use Rattle.nuc_base.proofs.Chains.{short_chain, under_of_steps}

-- a chain, and another from its end
pub steps_joined : (m : Nodes) (b c a j k : ℕ) → Steps m b a j → Steps m c b k → Steps m c a (j + k)
steps_joined m b c a j k done after = subst (λ t. Steps m c b t) (omega arith) after
steps_joined m b c a j k (step y i n e s) after = subst (λ t. Steps m c y t) (omega arith) (step y (i + k) n e (steps_joined m b c n.place.parent.0 i k s after))

-- two chains of one identity, each to an identity without a node, have one length
pub steps_unique : (m : Nodes) (b c a j k : ℕ) → get m b ≡ None → get m c ≡ None → Steps m b a j → Steps m c a k → j ≡ k
steps_unique m b c a j k no_b no_c done done = refl
steps_unique m b c a j k no_b no_c done (step y i n e s) = absurd (not_both m y n no_b e)
steps_unique m b c a j k no_b no_c (step y i n e s) done = absurd (not_both m y n no_c e)
steps_unique m b c a j k no_b no_c (step y i n e s) (step z l h f t) =
    ap suc (steps_unique m b c n.place.parent.0 i l no_b no_c s (subst (λ (r : Node). Steps m c r.place.parent.0 l) (one_node m y h n f e) t))

-- an identity has one depth
pub one_depth : (m : Nodes) (x d e : ℕ) → WellFormed m → Steps m 0 x d → Steps m 0 x e → d ≡ e
one_depth m x d e form s t = steps_unique m 0 0 x d e form.no_root form.no_root s t

-- each node stands at some depth, which is no greater than the number of nodes
pub depth_of : (m : Nodes) (x : ℕ) (n : Node) → WellFormed m → get m x ≡ Some n → (d : ℕ) × Steps m 0 x d × (d ≤ len m)
depth_of m x n form e = short_chain m 0 x (form.rooted x n e)

-- what is above x stands less deep
pub depth_above : (m : Nodes) (a x d e : ℕ) → WellFormed m → Above m a x → Steps m 0 x d → Steps m 0 a e → e < d
depth_above m a x d e form (n, at, u) deep less =
    let s = short_chain m a n.place.parent.0 u in
    let whole : Steps m 0 x (suc s.0 + e) = steps_joined m a 0 x (suc s.0) e (step x s.0 n at s.1) less in
    let same : d ≡ suc s.0 + e = one_depth m x d (suc s.0 + e) form deep whole in
    omega (arith, same)

-- a parent doesn't stand below its child
pub no_loop : (m : Nodes) (x : ℕ) (n : Node) → WellFormed m → get m x ≡ Some n → ¬ (IsUnder m n.place.parent.0 x)
no_loop m x n form at u =
    let d = depth_of m x n form at in
    let less : d.0 < d.0 = depth_above m x x d.0 d.0 form (n, at, u) d.1 d.1 in
    absurd (omega (arith, less))

-- what a folder stands below is a folder
pub folder_above : (m : Nodes) (a q : ℕ) → WellFormed m → IsFolder m q → IsUnder m q a → IsFolder m a
folder_above m a q form folder here = folder
folder_above m a q form folder (up y n e u) = folder_above m a n.place.parent.0 form (form.parents y n e) u

-- what is above x is the root or a folder
pub above_in : (m : Nodes) (a x : ℕ) → WellFormed m → Above m a x → IsFolder m a
above_in m a x form (n, at, u) = folder_above m a n.place.parent.0 form (form.parents x n at) u

-- who is above one that is above x, is above x
pub above_trans : (m : Nodes) (a b x : ℕ) → Above m a b → Above m b x → Above m a x
above_trans m a b x (k, f, v) (n, e, u) = (n, e, through n.place.parent.0 u)
  where
    through : (q : ℕ) → IsUnder m q b → IsUnder m q a
    through q here = up b k f v
    through q (up y h g w) = up y h g (through h.place.parent.0 w)

-- no chain to the root is longer than the number of nodes
pub short_depth : (m : Nodes) (x d : ℕ) → WellFormed m → Steps m 0 x d → d ≤ len m
short_depth m x d form s =
    let short = short_chain m 0 x (under_of_steps m 0 x d s) in
    let same : d ≡ short.0 = one_depth m x d short.0 form s short.1 in
    let few = short.2 in
    omega (arith, same, few)

-- the root and each folder stand at some depth
pub folder_depth : (m : Nodes) (q : ℕ) → WellFormed m → IsFolder m q → (d : ℕ) × Steps m 0 q d
folder_depth m q form (inl root) = (0, subst (λ z. Steps m 0 z 0) (sym root) done)
folder_depth m q form (inr (n, e, is)) = let d = depth_of m q n form e in (d.0, d.1)

-- nothing precedes what is above it
pub above_first : (m : Nodes) (a x : ℕ) → WellFormed m → Above m a x → ¬ (Precedes m x a)
above_first m a x form above first =
    let deep = depth_of m x above.0 form above.1 in
    let less = folder_depth m a form (above_in m a x form above) in
    let rises = depth_above m a x deep.0 less.0 form above deep.1 less.1 in
    elim (first deep.0 less.0 deep.1 less.1) [
      | inl shorter ↦ absurd (omega (arith, rises, shorter))
      | inr (same, least) ↦ absurd (omega (arith, rises, same))
    ]
