-- What two trees share where a chain of parents is the same in both.
use Rattle.std.proofs.Common.{◌≡◌, ◌≢◌, ◌<◌, ℕ, Some, None, refl, sym, ap, subst, ◌∙◌, inl, inr, arith}
use Rattle.std.specs.FinMap.{get}
use Rattle.nuc_base.specs.Legal.{IsFree, LegalPut}
use Rattle.nuc_base.specs.SamePlace.{SamePlace}
use Rattle.nuc_base.specs.Trees.{Nodes, IsFolder, IsUnder, Above, Alike, OneKind, WellFormed}
use Rattle.nuc_base.specs.Trees.Under.{here, up}
use Rattle.nuc_base.specs.declared.node.Node.{Node}
use Rattle.nuc_base.proofs.Maps.{one_node, not_both}
use Rattle.nuc_base.proofs.Depths.{folder_above, no_loop}

-- no folder stands below an identity that isn't there
pub under_absent : (m : Nodes) (x q : ℕ) → WellFormed m → 0 < x → IsFolder m q → get m x ≡ None → ¬ (IsUnder m q x)
under_absent m x q form below folder gone u = elim (folder_above m x q form folder u) [
  | inl root ↦ absurd (omega (arith, root, below))
  | inr (n, e, is) ↦ not_both m x n gone e
]

-- the order of the two trees doesn't matter
pub one_kind-sym : (m k : Nodes) → OneKind m k → OneKind k m
one_kind-sym m k kinds x n h e f = sym (kinds x h n f e)

-- where the chain of q is the same, q stands below all in the first tree that it stands below in the second
pub under_alike : (m k : Nodes) (b q : ℕ) → WellFormed m → get k 0 ≡ None → IsFolder m q → Alike m k q → IsUnder k q b → IsUnder m q b
under_alike m k b q form none folder alike here = here
under_alike m k b q form none (inl root) alike (up y h e u) = absurd (not_both k y h (subst (λ z. get k z ≡ None) (sym root) none) e)
under_alike m k b q form none (inr (n, at, is)) alike (up y h e u) =
    let other = alike y n here at in
    let parent : h.place.parent.0 ≡ n.place.parent.0 = ap (λ (r : Node). r.place.parent.0) (one_node k y h other.0 e other.1) ∙ other.2 in
    let stands : IsFolder m h.place.parent.0 = subst (λ t. IsFolder m t) (sym parent) (form.parents y n at) in
    let rest : IsUnder m h.place.parent.0 b = under_alike m k b h.place.parent.0 form none stands
    (λ a g v there. alike a g (up y n at (subst (λ t. IsUnder m t a) parent v)) there) u in
    up y n at (subst (λ t. IsUnder m t b) parent rest)

-- the chain above x is the same where the second tree has the same nodes there
pub alike_same : (m k : Nodes) (x : ℕ) (n : Node) → WellFormed m → get m x ≡ Some n → ((a : ℕ) → Above m a x → a ≢ 0 → get k a ≡ get m a)
    → Alike m k n.place.parent.0
alike_same m k x n form at same a h u there =
    (h, same a (n, at, u) (λ root. not_both m a h (subst (λ z. get m z ≡ None) (sym root) form.no_root) there) ∙ there, refl)

-- a folder whose parent is the same in both trees is a folder in both
pub folder_alike : (m k : Nodes) (q : ℕ) → OneKind m k → IsFolder m q → Alike m k q → IsFolder k q
folder_alike m k q kinds (inl root) alike = inl root
folder_alike m k q kinds (inr (n, e, is)) alike = let other = alike q n here e in inr (other.0, other.1, sym (kinds q n other.0 e other.1) ∙ is)

-- a node may stand in the second tree where it stands in the first, if its chain is the same there and its place is free
pub legal_alike : (m k : Nodes) (x : ℕ) (n node : Node) → WellFormed m → WellFormed k → OneKind m k → get m x ≡ Some n
    → Alike m k n.place.parent.0 → SamePlace node.place n.place → node.kind ≡ n.kind → IsFree k x node.place → LegalPut k x node
legal_alike m k x n node form other kinds at alike same kind free =
    let folder = form.parents x n at in
    record {
      kind = λ h e. sym (kinds x n h at e) ∙ sym kind;
      parent = subst (λ t. IsFolder k t) (sym same.parent) (folder_alike m k n.place.parent.0 kinds folder alike);
      free = free;
      no_cycle = λ u. no_loop m x n form at
          (under_alike m k x n.place.parent.0 form other.no_root folder alike (subst (λ t. IsUnder k t x) same.parent u));
    }
