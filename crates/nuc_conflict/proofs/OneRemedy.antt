-- The rules give one remedy.
use Rattle.std.proofs.Common.{◌≡◌, ◌⊎◌, ℕ, Bool, Some, refl, sym, ap, subst, ◌∙◌, inl, inr, arith}
use Rattle.std.specs.FinMap.{get}
use Rattle.nuc_base.specs.Legal.{IsFree}
use Rattle.nuc_base.specs.Trees.{Nodes, Alike, IsUnder, WellFormed}
use Rattle.nuc_base.specs.Trees.Under.{here, up}
use Rattle.nuc_base.specs.declared.node.Node.{Node}
use Rattle.nuc_base.specs.declared.node.NodeId.{NodeId}
use Rattle.nuc_base.specs.declared.node.Place.{Place}
use Rattle.nuc_base.proofs.Maps.{one_node, not_both}
use Rattle.nuc_base.proofs.Places.{one_holder}
use Rattle.nuc_class.specs.declared.wishes.Wish.TheVariants as wish
use Rattle.nuc_conflict.specs.Remedies.{ClearsDown, ClearsUp, IsAstray, IsBlocker, IsClearDown, IsClearUp, IsDownClear, IsDownRemedy, IsInTheWay, IsRemedy, IsUpRemedy, MakesRoom, NoRemedy, Unblocks}
use Rattle.nuc_conflict.specs.Remedies.ClearsDown.{in_synced, in_local, below}
use Rattle.nuc_conflict.specs.Remedies.ClearsUp.{in_remote, in_synced as up_in_synced}
use Rattle.nuc_conflict.specs.Remedies.IsRemedy.{split as first_rule, down as second_rule, up as third_rule}
use Rattle.nuc_conflict.specs.declared.remedy.Remedy.{Remedy}
use Rattle.nuc_conflict.specs.declared.remedy.Remedy.TheVariants.{Split, Evict, Adopt, Revive, Unmove}
use Rattle.nuc_conflict.proofs.Search.{one_topmost}

one_id : (a b : NodeId) → a.0 ≡ b.0 → a ≡ b
one_id a b e = ap (λ (x : ℕ). let z : NodeId = record { 0 = x } in z) e

-- a place isn't both free for x and held by another
not_held : (m : Nodes) (p : Place) (x y : ℕ) → IsFree m x p → IsInTheWay m p x y → ⊥
not_held m p x y free ((n, at, near), apart) = apart (free y n at near)

-- of two above one, one is above the other
one_line : (m : Nodes) (a b q : ℕ) → IsUnder m q a → IsUnder m q b → IsUnder m a b ⊎ IsUnder m b a
one_line m a b q here second = inl second
one_line m a b q (up y n at first) here = inr (up y n at first)
one_line m a b q (up y n at first) (up z k there second) =
    one_line m a b n.place.parent.0 first (subst (λ (h : Node). IsUnder m h.place.parent.0 b) (one_node m y k n there at) second)

-- what is astray isn't above the one that is astray and nearest the root
none_above : (r l : Nodes) (q a b : ℕ) (n k : Node) → IsBlocker r l q a n → IsBlocker r l q b k → IsUnder r a b → a ≡ b
none_above r l q a b n k first second here = refl
none_above r l q a b n k first second (up y h at under) =
    let alike : Alike r l h.place.parent.0 = subst (λ (i : Node). Alike r l i.place.parent.0) (one_node r y n h first.there at) first.highest in
    let own = alike b k under second.there in
    absurd (subst (IsAstray k) own.1 second.astray own.2)

one_blocker : (r l : Nodes) (q a b : ℕ) (n k : Node) → IsBlocker r l q a n → IsBlocker r l q b k → a ≡ b
one_blocker r l q a b n k first second = elim (one_line r a b q first.above second.above) [
  | inl under ↦ none_above r l q a b n k first second under
  | inr under ↦ sym (none_above r l q b a k n second first under)
]

one_unblocking : (r l : Nodes) (m : ℕ) (n : Node) (a b : Remedy) → WellFormed l → Unblocks l m n a → Unblocks l m n b → a ≡ b
one_unblocking r l m n (Evict a p) (Evict b q) form (way, place) (other, too) =
    let id : a ≡ b = one_id a b (one_holder l a.0 b.0 n.place form way.0 other.0) in
    ap (λ z. Evict z p) id ∙ ap (λ z. Evict b z) (place ∙ sym too)
one_unblocking r l m n (Evict a p) (Revive b) form (way, place) (id, free, gone) = absurd (not_held l n.place m a.0 free way)
one_unblocking r l m n (Evict a p) (Unmove b) form (way, place) (id, free, there) = absurd (not_held l n.place m a.0 free way)
one_unblocking r l m n (Evict a p) (Split b) form clears other = absurd other
one_unblocking r l m n (Evict a p) (Adopt b c) form clears other = absurd other
one_unblocking r l m n (Revive a) (Evict b q) form (id, free, gone) (way, place) = absurd (not_held l n.place m b.0 free way)
one_unblocking r l m n (Revive a) (Revive b) form (id, free, gone) (too, more, none) = ap Revive (one_id a b (id ∙ sym too))
one_unblocking r l m n (Revive a) (Unmove b) form (id, free, gone) (too, more, there) = absurd (not_both l m there.0 gone there.1)
one_unblocking r l m n (Revive a) (Split b) form clears other = absurd other
one_unblocking r l m n (Revive a) (Adopt b c) form clears other = absurd other
one_unblocking r l m n (Unmove a) (Evict b q) form (id, free, there) (way, place) = absurd (not_held l n.place m b.0 free way)
one_unblocking r l m n (Unmove a) (Revive b) form (id, free, there) (too, more, gone) = absurd (not_both l m there.0 gone there.1)
one_unblocking r l m n (Unmove a) (Unmove b) form (id, free, there) (too, more, stands) = ap Unmove (one_id a b (id ∙ sym too))
one_unblocking r l m n (Unmove a) (Split b) form clears other = absurd other
one_unblocking r l m n (Unmove a) (Adopt b c) form clears other = absurd other
one_unblocking r l m n (Split a) b form clears other = absurd clears
one_unblocking r l m n (Adopt a c) b form clears other = absurd clears

module _ (same : ℕ → ℕ → Bool) (r l s : Nodes) where
  one_room : (x : ℕ) (n : Node) (y : ℕ) (a b : Remedy) → MakesRoom same r l s x n y a → MakesRoom same r l s x n y b → a ≡ b
  one_room x n y (Adopt a c) (Adopt b d) (id, other, can) (too, more, may) =
      ap (λ z. Adopt z c) (one_id a b (id ∙ sym too)) ∙ ap (λ z. Adopt b z) (one_id c d (other ∙ sym more))
  one_room x n y (Adopt a c) (Evict b q) (id, other, can) (too, place, not) = absurd (not can)
  one_room x n y (Adopt a c) (Split b) room other = absurd other
  one_room x n y (Adopt a c) (Revive b) room other = absurd other
  one_room x n y (Adopt a c) (Unmove b) room other = absurd other
  one_room x n y (Evict a p) (Adopt b d) (id, place, not) (too, more, can) = absurd (not can)
  one_room x n y (Evict a p) (Evict b q) (id, place, not) (too, more, neither) =
      ap (λ z. Evict z p) (one_id a b (id ∙ sym too)) ∙ ap (λ z. Evict b z) (place ∙ sym more)
  one_room x n y (Evict a p) (Split b) room other = absurd other
  one_room x n y (Evict a p) (Revive b) room other = absurd other
  one_room x n y (Evict a p) (Unmove b) room other = absurd other
  one_room x n y (Split a) b room other = absurd room
  one_room x n y (Revive a) b room other = absurd room
  one_room x n y (Unmove a) b room other = absurd room

  one_eviction : (m : Nodes) (p : Place) (x : ℕ) (a b : NodeId) (one two : Remedy) → WellFormed m → IsInTheWay m p x a.0 → IsInTheWay m p x b.0
      → one ≡ Evict a p → two ≡ Evict b p → one ≡ two
  one_eviction m p x a b one two form way other is too =
      is ∙ ap (λ z. Evict z p) (one_id a b (one_holder m a.0 b.0 p form way.0 other.0)) ∙ sym too

  module _ (local : WellFormed l) (synced : WellFormed s) where
    one_clears_down : (x : ℕ) (n : Node) (a b : Remedy) → ClearsDown same r l s x n a → ClearsDown same r l s x n b → a ≡ b
    one_clears_down x n a b (in_synced y way is) (in_synced z other too) = one_eviction s n.place x y z a b synced way other is too
    one_clears_down x n a b (in_synced y way is) (in_local z free other room) = absurd (not_held s n.place x y.0 free way)
    one_clears_down x n a b (in_synced y way is) (below free_s free_l under unblocking) = absurd (not_held s n.place x y.0 free_s way)
    one_clears_down x n a b (in_local y free way room) (in_synced z other too) = absurd (not_held s n.place x z.0 free other)
    one_clears_down x n a b (in_local y free way room) (in_local z more other too) =
        one_room x n y.0 a b room (subst (λ i. MakesRoom same r l s x n i b) (one_holder l z.0 y.0 n.place local other.0 way.0) too)
    one_clears_down x n a b (in_local y free way room) (below free_s free_l under unblocking) = absurd (not_held l n.place x y.0 free_l way)
    one_clears_down x n a b (below free_s free_l under unblocking) (in_synced z other too) = absurd (not_held s n.place x z.0 free_s other)
    one_clears_down x n a b (below free_s free_l under unblocking) (in_local z more other room) = absurd (not_held l n.place x z.0 free_l other)
    one_clears_down x n a b (below free_s free_l under first) (below more_s more_l again second) =
        let id : second.top ≡ first.top = one_blocker r l n.place.parent.0 second.top first.top second.node first.node second.blocker first.blocker in
        let node : second.node ≡ first.node =
        one_node r first.top second.node first.node (subst (λ z. get r z ≡ Some second.node) id second.blocker.there) first.blocker.there in
        one_unblocking r l first.top first.node a b local first.clears
        (subst (λ (h : Node). Unblocks l first.top h b) node (subst (λ z. Unblocks l z second.node b) id second.clears))

  -- what is in the way isn't clear
  not_clear_down : (x : ℕ) (n : Node) (a : Remedy) → ClearsDown same r l s x n a → ¬ (IsClearDown l s x n)
  not_clear_down x n a (in_synced y way is) clear = not_held s n.place x y.0 clear.synced way
  not_clear_down x n a (in_local y free way room) clear = not_held l n.place x y.0 clear.local way
  not_clear_down x n a (below free_s free_l under unblocking) clear = clear.apart under

  one_clears_up : (x : ℕ) (n : Node) (a b : Remedy) → WellFormed r → WellFormed s → ClearsUp r s x n a → ClearsUp r s x n b → a ≡ b
  one_clears_up x n a b remote synced (in_remote y way is) (in_remote z other too) = one_eviction r n.place x y z a b remote way other is too
  one_clears_up x n a b remote synced (in_remote y way is) (up_in_synced z free other too) = absurd (not_held r n.place x y.0 free way)
  one_clears_up x n a b remote synced (up_in_synced y free way is) (in_remote z other too) = absurd (not_held r n.place x z.0 free other)
  one_clears_up x n a b remote synced (up_in_synced y free way is) (up_in_synced z more other too) = one_eviction s n.place x y z a b synced way other is too

  not_clear_up : (x : ℕ) (n : Node) (a : Remedy) → ClearsUp r s x n a → ¬ (IsClearUp r s x n)
  not_clear_up x n a (in_remote y way is) clear = not_held r n.place x y.0 clear.remote way
  not_clear_up x n a (up_in_synced y free way is) clear = not_held s n.place x y.0 clear.synced way

  one_down : (a b : Remedy) → WellFormed r → WellFormed l → WellFormed s → IsDownRemedy same r l s a → IsDownRemedy same r l s b → a ≡ b
  one_down a b remote local synced first second =
      let id : second.x ≡ first.x = one_topmost same r l s r wish.Down second.x first.x remote (second.node, second.there) (first.node, first.there) second.topmost first.topmost in
      let node : second.node ≡ first.node =
      one_node r first.x second.node first.node (subst (λ z. get r z ≡ Some second.node) id second.there) first.there in
      one_clears_down local synced first.x first.node a b first.clears
      (subst (λ (h : Node). ClearsDown same r l s first.x h b) node (subst (λ z. ClearsDown same r l s z second.node b) id second.clears))

  one_up : (a b : Remedy) → WellFormed r → WellFormed l → WellFormed s → IsUpRemedy same r l s a → IsUpRemedy same r l s b → a ≡ b
  one_up a b remote local synced first second =
      let id : second.x ≡ first.x = one_topmost same r l s l wish.Up second.x first.x local (second.node, second.there) (first.node, first.there) second.topmost first.topmost in
      let node : second.node ≡ first.node =
      one_node l first.x second.node first.node (subst (λ z. get l z ≡ Some second.node) id second.there) first.there in
      one_clears_up first.x first.node a b remote synced first.clears
      (subst (λ (h : Node). ClearsUp r s first.x h b) node (subst (λ z. ClearsUp r s z second.node b) id second.clears))

  not_down_clear : (a : Remedy) → IsDownRemedy same r l s a → ¬ (IsDownClear same r l s)
  not_down_clear a rule clear = not_clear_down rule.x rule.node a rule.clears (clear rule.x rule.node rule.topmost rule.there)

  pub one_remedy : (a b : Remedy) → WellFormed r → WellFormed l → WellFormed s → IsRemedy same r l s a → IsRemedy same r l s b → a ≡ b
  one_remedy a b remote local synced (first_rule x least is) (first_rule y first too) =
      is ∙ ap Split (one_id x y (let below = least.least y.0 first.wished in let above = first.least x.0 least.wished in omega (arith, below, above))) ∙ sym too
  one_remedy a b remote local synced (first_rule x least is) (second_rule whole served) = absurd (whole x.0 least.wished)
  one_remedy a b remote local synced (first_rule x least is) (third_rule whole clear served) = absurd (whole x.0 least.wished)
  one_remedy a b remote local synced (second_rule whole served) (first_rule y first too) = absurd (whole y.0 first.wished)
  one_remedy a b remote local synced (second_rule whole served) (second_rule more other) = one_down a b remote local synced served other
  one_remedy a b remote local synced (second_rule whole served) (third_rule more clear other) = absurd (not_down_clear a served clear)
  one_remedy a b remote local synced (third_rule whole clear served) (first_rule y first too) = absurd (whole y.0 first.wished)
  one_remedy a b remote local synced (third_rule whole clear served) (second_rule more other) = absurd (not_down_clear b other clear)
  one_remedy a b remote local synced (third_rule whole clear served) (third_rule more again other) = one_up a b remote local synced served other

  pub not_none : (a : Remedy) → IsRemedy same r l s a → ¬ (NoRemedy same r l s)
  not_none a (first_rule x least is) none = none.split x.0 least.wished
  not_none a (second_rule whole served) none = not_down_clear a served none.down
  not_none a (third_rule whole clear served) none =
      not_clear_up served.x served.node a served.clears (none.up served.x served.node served.topmost served.there)
