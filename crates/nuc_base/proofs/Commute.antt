-- Two changes that are apart: each is legal after the other, both orders give one tree, and they stay apart from others.
use Rattle.std.proofs.Common.{◌≡◌, ◌≢◌, ◌<◌, ℕ, Option, Some, None, refl, sym, ap, subst, ◌∙◌, inl, inr}
use Rattle.std.specs.FinMap.{get}
use Rattle.nuc_base.specs.Changes.{node_after, changed, IsLegal, Moves, Spares, OtherPlaces, Apart}
use Rattle.nuc_base.specs.Legal.{LegalCut}
use Rattle.nuc_base.specs.SamePlace.{SamePlace, same_place-sym}
use Rattle.nuc_base.specs.Trees.{Nodes, IsFolder, IsUnder, WellFormed}
use Rattle.nuc_base.specs.Trees.Under.{here, up}
use Rattle.nuc_base.specs.declared.change.Change.{Change}
use Rattle.nuc_base.specs.declared.change.Change.TheVariants.{Keep, Put, Cut}
use Rattle.nuc_base.specs.declared.node.Node.{Node}
use Rattle.nuc_base.proofs.Alike.{under_absent}
use Rattle.nuc_base.proofs.Changed.{get_changed_other, get_changed_at}
use Rattle.nuc_base.proofs.Maps.{same_or_not, one_node, not_both, same_nodes}

-- a chain that doesn't meet z is what it was before z changed
pub under_off : (m : Nodes) (z : ℕ) (e : Change) (b a : ℕ) → ¬ (IsUnder m a z) → IsUnder (changed m z e) a b → IsUnder m a b
under_off m z e b a off here = here
under_off m z e b a off (up y n at u) =
    let other : y ≢ z = λ s. off (subst (λ t. IsUnder m y t) s here) in
    let was : get m y ≡ Some n = sym (get_changed_other m z e y other) ∙ at in
    up y n was (under_off m z e b n.place.parent.0 (λ v. off (up y n was v)) u)

-- where z keeps its parent, each chain is what it was
under_kept : (m : Nodes) (z : ℕ) (k node : Node) → get m z ≡ Some k → k.place.parent.0 ≡ node.place.parent.0
    → (b a : ℕ) → IsUnder (changed m z (Put node)) a b → IsUnder m a b
under_kept m z k node there kept b a here = here
under_kept m z k node there kept b a (up y n at u) =
    let rest : IsUnder m n.place.parent.0 b = under_kept m z k node there kept b n.place.parent.0 u in
    elim (same_or_not y z) [
      | inl s ↦
          let now : node ≡ n = one_node (changed m z (Put node)) y node n (get_changed_at m z (Put node) y s) at in
          up y k (subst (λ t. get m t ≡ Some k) (sym s) there) (subst (λ t. IsUnder m t b) (ap (λ (r : Node). r.place.parent.0) (sym now) ∙ sym kept) rest)
      | inr other ↦ up y n (sym (get_changed_other m z (Put node) y other) ∙ at) rest
    ]

-- a chain of a folder is what it was before z changed, where z isn't on it or didn't move
pub under_before_change : (m : Nodes) (z : ℕ) (e : Change) (b a : ℕ) → WellFormed m → 0 < z → IsFolder m a
    → (Moves m z e → ¬ (IsUnder m a z)) → IsUnder (changed m z e) a b → IsUnder m a b
under_before_change m z Keep b a form below folder spares u = u
under_before_change m z Cut b a form below folder spares u = under_off m z Cut b a (spares tt) u
under_before_change m z (Put node) b a form below folder spares u = by (get m z) refl
  where
    by : (o : Option Node) → get m z ≡ o → IsUnder m a b
    by None gone = under_off m z (Put node) b a (under_absent m z a form below folder gone) u
    by (Some k) there = elim (same_or_not k.place.parent.0 node.place.parent.0) [
      | inl kept ↦ under_kept m z k node there kept b a u
      | inr moved ↦ under_off m z (Put node) b a (spares (k, there, moved)) u
    ]

-- who stands where two changes have other places
free_after : (m : Nodes) (x y : ℕ) (c : Change) (node : Node) → IsLegal m y (Put node) → OtherPlaces c (Put node)
    → (q : ℕ) (n : Node) → get (changed m x c) q ≡ Some n → SamePlace n.place node.place → q ≡ y
free_after m x y Keep node legal places q n e s = legal.free q n e s
free_after m x y Cut node legal places q n e s = elim (same_or_not q x) [
  | inl t ↦ absurd (not_both (changed m x Cut) q n (get_changed_at m x Cut q t) e)
  | inr other ↦ legal.free q n (sym (get_changed_other m x Cut q other) ∙ e) s
]
free_after m x y (Put k) node legal places q n e s = elim (same_or_not q x) [
  | inl t ↦
      let now : n ≡ k = one_node (changed m x (Put k)) q n k e (get_changed_at m x (Put k) q t) in
      absurd (places (subst (λ (r : Node). SamePlace r.place node.place) now s))
  | inr other ↦ legal.free q n (sym (get_changed_other m x (Put k) q other) ∙ e) s
]

-- a folder stays one, where a cut spares it
folder_after : (m : Nodes) (x : ℕ) (c : Change) (q : ℕ) → IsLegal m x c → (Moves m x c → ¬ (IsUnder m q x)) → IsFolder m q → IsFolder (changed m x c) q
folder_after m x c q legal spares (inl root) = inl root
folder_after m x c q legal spares (inr (n, e, is)) = elim (same_or_not q x) [
  | inl s ↦ here_too c legal spares s
  | inr other ↦ inr (n, get_changed_other m x c q other ∙ e, is)
]
  where
    here_too : (c : Change) → IsLegal m x c → (Moves m x c → ¬ (IsUnder m q x)) → q ≡ x → IsFolder (changed m x c) q
    here_too Keep legal spares s = inr (n, e, is)
    here_too Cut legal spares s = absurd (spares tt (subst (λ t. IsUnder m q t) s here))
    here_too (Put k) legal spares s = inr (k, get_changed_at m x (Put k) q s, sym (legal.kind n (subst (λ t. get m t ≡ Some n) s e)) ∙ is)

-- nobody is put below an identity that is cut
childless_after : (m : Nodes) (x y : ℕ) (c : Change) → LegalCut m y → Spares m y Cut c
    → (q : ℕ) (n : Node) → get (changed m x c) q ≡ Some n → n.place.parent.0 ≢ y
childless_after m x y Keep legal spares q n e child = legal.empty q n e child
childless_after m x y Cut legal spares q n e child = elim (same_or_not q x) [
  | inl t ↦ not_both (changed m x Cut) q n (get_changed_at m x Cut q t) e
  | inr other ↦ legal.empty q n (sym (get_changed_other m x Cut q other) ∙ e) child
]
childless_after m x y (Put k) legal spares q n e child = elim (same_or_not q x) [
  | inl t ↦
      let now : n ≡ k = one_node (changed m x (Put k)) q n k e (get_changed_at m x (Put k) q t) in
      spares tt (subst (λ t. IsUnder m t y) (sym child ∙ ap (λ (r : Node). r.place.parent.0) now) here)
  | inr other ↦ legal.empty q n (sym (get_changed_other m x (Put k) q other) ∙ e) child
]

-- of two legal changes that are apart, the second is legal after the first
pub legal_after : (m : Nodes) (x y : ℕ) (c d : Change) → WellFormed m → 0 < x → x ≢ y → IsLegal m x c → IsLegal m y d → Apart m x c y d
    → IsLegal (changed m x c) y d
legal_after m x y c Keep form below other legal_x legal_y apart = tt
legal_after m x y c Cut form below other legal_x legal_y apart = record {
  there = (legal_y.there.0, get_changed_other m x c y (λ e. other (sym e)) ∙ legal_y.there.1);
  empty = childless_after m x y c legal_y apart.second;
}
legal_after m x y c (Put node) form below other legal_x legal_y apart = record {
  kind = λ n e. legal_y.kind n (sym (get_changed_other m x c y (λ e. other (sym e))) ∙ e);
  parent = folder_after m x c node.place.parent.0 legal_x apart.first legal_y.parent;
  free = free_after m x y c node legal_y apart.places;
  no_cycle = λ u. legal_y.no_cycle (under_before_change m x c y node.place.parent.0 form below legal_y.parent apart.first u);
}

-- changes of two identities give one tree in either order
pub same_after : (m : Nodes) (x y : ℕ) (c d : Change) → x ≢ y → changed (changed m x c) y d ≡ changed (changed m y d) x c
same_after m x y c d other = same_nodes (changed (changed m x c) y d) (changed (changed m y d) x c) at
  where
    at : (q : ℕ) → get (changed (changed m x c) y d) q ≡ get (changed (changed m y d) x c) q
    at q = elim (same_or_not q x) [
      | inl s ↦
          let off : q ≢ y = λ e. other (sym s ∙ e) in
          get_changed_other (changed m x c) y d q off ∙ get_changed_at m x c q s
          ∙ sym (get_changed_at (changed m y d) x c q s ∙ ap (node_after c) (get_changed_other m y d q off))
      | inr off ↦ elim (same_or_not q y) [
        | inl s ↦
            get_changed_at (changed m x c) y d q s ∙ ap (node_after d) (get_changed_other m x c q off)
            ∙ sym (get_changed_other (changed m y d) x c q off ∙ get_changed_at m y d q s)
        | inr too ↦
            get_changed_other (changed m x c) y d q too ∙ get_changed_other m x c q off
            ∙ sym (get_changed_other (changed m y d) x c q off ∙ get_changed_other m y d q too)
      ]
    ]

-- a change that keeps all is apart from each
pub apart_keep : (m : Nodes) (x y : ℕ) (d : Change) → Apart m x Keep y d
apart_keep m x y Keep = record { places = tt; first = tt; second = tt }
apart_keep m x y (Put node) = record { places = tt; first = λ moves. absurd moves; second = tt }
apart_keep m x y Cut = record { places = tt; first = tt; second = tt }

-- the order of the two doesn't matter
pub apart-sym : (m : Nodes) (x y : ℕ) (c d : Change) → Apart m x c y d → Apart m y d x c
apart-sym m x y c d apart = record { places = places c d apart.places; first = apart.second; second = apart.first }
  where
    places : (c d : Change) → OtherPlaces c d → OtherPlaces d c
    places Keep Keep o = tt
    places Keep (Put k) o = tt
    places Keep Cut o = tt
    places (Put n) Keep o = tt
    places (Put n) (Put k) o = λ s. o (same_place-sym k.place n.place s)
    places (Put n) Cut o = tt
    places Cut Keep o = tt
    places Cut (Put k) o = tt
    places Cut Cut o = tt

-- a move after the change of another was one before
moved_before : (m : Nodes) (x z : ℕ) (c e : Change) → x ≢ z → Moves (changed m z e) x c → Moves m x c
moved_before m x z Keep e other moves = moves
moved_before m x z Cut e other moves = tt
moved_before m x z (Put node) e other (n, at, moved) = (n, sym (get_changed_other m z e x other) ∙ at, moved)

spares_after : (m : Nodes) (x y z : ℕ) (c d e : Change) → WellFormed m → 0 < z → x ≢ z → IsLegal m y d → Spares m x c d → Spares m z e d
    → Spares (changed m z e) x c d
spares_after m x y z c Keep e form below other legal spares apart = tt
spares_after m x y z c Cut e form below other legal spares apart = tt
spares_after m x y z c (Put node) e form below other legal spares apart = λ moves u.
    spares (moved_before m x z c e other moves) (under_before_change m z e x node.place.parent.0 form below legal.parent apart u)

-- two that are apart stay so after the change of a third that is apart from both
pub apart_after : (m : Nodes) (x y z : ℕ) (c d e : Change) → WellFormed m → 0 < z → x ≢ z → y ≢ z → IsLegal m x c → IsLegal m y d
    → Apart m x c y d → Apart m z e x c → Apart m z e y d → Apart (changed m z e) x c y d
apart_after m x y z c d e form below x_z y_z legal_x legal_y apart from_x from_y = record {
  places = apart.places;
  first = spares_after m x y z c d e form below x_z legal_y apart.first from_y.first;
  second = spares_after m y x z d c e form below y_z legal_x apart.second from_x.first;
}
