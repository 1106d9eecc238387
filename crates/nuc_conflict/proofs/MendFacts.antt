-- What holds of every mend.
use Rattle.std.proofs.Common.{◌≡◌, ◌≢◌, ◌⊎◌, ℕ, Bool, None, Some, sym, ap, subst, ◌∙◌, inl, inr}
use Rattle.std.specs.FinMap.{get}
use Rattle.nuc_base.specs.Legal.{IsFree}
use Rattle.nuc_base.specs.SamePlace.{SamePlace, same_place-refl}
use Rattle.nuc_base.specs.Trees.{Nodes, OneKind, StandsAt, WellFormed}
use Rattle.nuc_base.specs.declared.change.Change.TheVariants.{Keep, Put}
use Rattle.nuc_base.specs.declared.node.Node.{Node}
use Rattle.nuc_base.specs.declared.node.Place.{Place}
use Rattle.nuc_base.proofs.Maps.{one_node}
use Rattle.nuc_class.specs.declared.op.Effect.TheVariants.{Disk}
use Rattle.nuc_class.specs.declared.op.Op.{Op}
use Rattle.nuc_class.specs.declared.op.Verb.TheVariants as verb
use Rattle.nuc_class.specs.declared.wishes.Wish.TheVariants as wish
use Rattle.nuc_conflict.specs.Facts.{EvictionFacts, FactsOf, MendFacts}
use Rattle.nuc_conflict.specs.FitTogether.{IsBelow}
use Rattle.nuc_conflict.specs.Laws.{MendsHaveFacts}
use Rattle.nuc_conflict.specs.Mends.{CarriesOut, IsAdoption, IsEviction, IsMoveBack, IsRevival, IsSplit, local_mend}
use Rattle.nuc_conflict.specs.Remedies.{CanAdopt, ClearsDown, ClearsUp, IsBlocker, IsInTheWay, IsRemedy, MakesRoom, Unblocks}
use Rattle.nuc_conflict.specs.Remedies.ClearsDown.{in_synced, in_local, below}
use Rattle.nuc_conflict.specs.Remedies.ClearsUp.{in_remote, in_synced as up_in_synced}
use Rattle.nuc_conflict.specs.Remedies.IsRemedy.{split, down, up}
use Rattle.nuc_conflict.specs.Topmost.{IsLeastSplit, IsTopmost, NoSplit}
use Rattle.nuc_conflict.specs.declared.remedy.Remedy.{Remedy}
use Rattle.nuc_conflict.specs.declared.remedy.Remedy.TheVariants.{Split, Evict, Adopt, Revive, Unmove}
use Rattle.nuc_conflict.proofs.Adoptions.{adoption_facts}
use Rattle.nuc_conflict.proofs.Evictions.{evicted_above, evicted_below}
use Rattle.nuc_conflict.proofs.Returns.{move_back_facts, revival_facts}
use Rattle.nuc_conflict.proofs.Splits.{split_facts}

module _ (same : ℕ → ℕ → Bool) (r l s : Nodes) (next : ℕ) (remote : WellFormed r) (local : WellFormed l) (synced : WellFormed s)
    (remote_local : OneKind r l) (local_synced : OneKind l s) (below_r : IsBelow r next) (below_l : IsBelow l next) (below_s : IsBelow s next) (op : Op) where
  abbrev Facts : Type 0
  Facts = MendFacts same r l s next op

  by_split : (x : ℕ) → IsLeastSplit same r l s x → IsSplit r l s next x op → Facts
  by_split x least carried = subst (λ o. MendFacts same r l s next o) (sym carried.is)
      (split_facts same r l s next local synced remote_local local_synced below_r below_l below_s x carried.node carried.name carried.there carried.free least.wished)

  of_eviction : (y : ℕ) (p : Place) → IsEviction same r l s y p op → EvictionFacts same r l s op → Facts
  of_eviction y p carried facts = subst (λ v. FactsOf same r l s next op v) (sym (ap (λ (o : Op). o.verb) carried.is)) facts

  evict_below : (y : ℕ) (p : Place) (h : ℕ) → IsEviction same r l s y p op → StandsAt r h p → y ≢ h → StandsAt l y p ⊎ StandsAt s y p → Facts
  evict_below y p h carried holds apart moved =
      let id : op.id.0 ≡ y = ap (λ (o : Op). o.id.0) carried.is in
      of_eviction y p carried
      (evicted_below same r l s remote local synced op p (subst (λ z. IsEviction same r l s z p op) (sym id) carried) h (λ e. apart (sym id ∙ sym e)) holds
      (subst (λ z. StandsAt l z p ⊎ StandsAt s z p) (sym id) moved))

  evict_above : NoSplit same r l s → (y : ℕ) (p : Place) (h : ℕ) → IsEviction same r l s y p op → StandsAt l h p → y ≢ h → StandsAt r y p ⊎ StandsAt s y p → Facts
  evict_above whole y p h carried holds apart moved =
      let id : op.id.0 ≡ y = ap (λ (o : Op). o.id.0) carried.is in
      of_eviction y p carried
      (evicted_above same r l s remote local synced op p (subst (λ z. IsEviction same r l s z p op) (sym id) carried) h (λ e. apart (sym id ∙ sym e)) whole holds
      (subst (λ z. StandsAt r z p ⊎ StandsAt s z p) (sym id) moved))

  by_adoption : (x y : ℕ) (n : Node) → get r x ≡ Some n → IsFree s x n.place → StandsAt l y n.place → CanAdopt same r l s x n y → IsAdoption r l s x y op → Facts
  by_adoption x y n at free (k, there, near) can carried =
      let e : n ≡ carried.node = one_node r x n carried.node at carried.there in
      let f : k ≡ carried.own = one_node l y k carried.own there carried.own_there in
      let close : SamePlace carried.own.place carried.node.place =
      subst (λ (h : Node). SamePlace carried.own.place h.place) e (subst (λ (h : Node). SamePlace h.place n.place) f near) in
      subst (λ o. MendFacts same r l s next o) (sym carried.is)
      (adoption_facts same r l s remote local x y carried.node carried.own carried.there carried.own_there close
      (subst (λ (h : Node). IsFree s x h.place) e free) (subst (λ (h : Node). CanAdopt same r l s x h y) e can))

  make_room : (x : ℕ) (n : Node) (y : ℕ) (remedy : Remedy) → get r x ≡ Some n → IsFree s x n.place → IsInTheWay l n.place x y
      → MakesRoom same r l s x n y remedy → CarriesOut same r l s next remedy op → Facts
  make_room x n y (Adopt a b) at free way (first, second, can) carried =
      by_adoption x y n at free way.0 can (subst (λ z. IsAdoption r l s x z op) second (subst (λ z. IsAdoption r l s z b.0 op) first carried))
  make_room x n y (Evict a p) at free way (first, place, not) carried =
      evict_below y n.place x (subst (λ z. IsEviction same r l s y z op) place (subst (λ z. IsEviction same r l s z p op) first carried))
      (n, at, same_place-refl n.place) way.1 (inl way.0)
  make_room x n y (Split a) at free way room carried = absurd room
  make_room x n y (Revive a) at free way room carried = absurd room
  make_room x n y (Unmove a) at free way room carried = absurd room

  module _ (x : ℕ) (n : Node) (whole : NoSplit same r l s) (top : IsTopmost same r l s r wish.Down x) (at : get r x ≡ Some n) where
    by_revival : (m : ℕ) (k : Node) → IsBlocker r l n.place.parent.0 m k → IsFree l m k.place → get l m ≡ None → IsRevival r l s m op → Facts
    by_revival m k blocks free gone carried =
        let e : carried.node ≡ k = one_node r m carried.node k carried.there blocks.there in
        let is : op ≡ local_mend verb.Revive m 0 (Put k) Keep (get l m) (get s m) Disk =
        subst (λ h. op ≡ local_mend verb.Revive m 0 (Put h) Keep (get l m) (get s m) Disk) e carried.is in
        subst (λ o. MendFacts same r l s next o) (sym is)
        (revival_facts same r l s remote local remote_local whole x n at top m k blocks free gone)

    by_move_back : (m : ℕ) (k : Node) → IsBlocker r l n.place.parent.0 m k → IsFree l m k.place → IsMoveBack r l s m op → Facts
    by_move_back m k blocks free carried =
        let e : carried.node ≡ k = one_node r m carried.node k carried.there blocks.there in
        let is : op ≡ local_mend verb.Unmove m 0 (Put (record carried.own { place = k.place })) Keep (get l m) (get s m) Disk =
        subst (λ (h : Node). op ≡ local_mend verb.Unmove m 0 (Put (record carried.own { place = h.place })) Keep (get l m) (get s m) Disk) e carried.is in
        subst (λ o. MendFacts same r l s next o) (sym is)
        (move_back_facts same r l s remote local remote_local whole x n at top m k blocks free carried.own carried.own_there)

    unblock : (m : ℕ) (k : Node) (remedy : Remedy) → IsBlocker r l n.place.parent.0 m k → Unblocks l m k remedy → CarriesOut same r l s next remedy op → Facts
    unblock m k (Evict a p) blocks (way, place) carried =
        evict_below a.0 k.place m (subst (λ z. IsEviction same r l s a.0 z op) place carried) (k, blocks.there, same_place-refl k.place) way.1 (inl way.0)
    unblock m k (Revive a) blocks (id, free, gone) carried = by_revival m k blocks free gone (subst (λ z. IsRevival r l s z op) id carried)
    unblock m k (Unmove a) blocks (id, free, there) carried = by_move_back m k blocks free (subst (λ z. IsMoveBack r l s z op) id carried)
    unblock m k (Split a) blocks clears carried = absurd clears
    unblock m k (Adopt a b) blocks clears carried = absurd clears

    by_down : (remedy : Remedy) → ClearsDown same r l s x n remedy → CarriesOut same r l s next remedy op → Facts
    by_down remedy (in_synced y way is) carried =
        evict_below y.0 n.place x (subst (λ z. CarriesOut same r l s next z op) is carried) (n, at, same_place-refl n.place) way.1 (inr way.0)
    by_down remedy (in_local y free way room) carried = make_room x n y.0 remedy at free way room carried
    by_down remedy (below free_s free_l under unblocking) carried = unblock unblocking.top unblocking.node remedy unblocking.blocker unblocking.clears carried

  by_up : (x : ℕ) (n : Node) (remedy : Remedy) → NoSplit same r l s → get l x ≡ Some n → ClearsUp r s x n remedy → CarriesOut same r l s next remedy op → Facts
  by_up x n remedy whole at (in_remote y way is) carried =
      evict_above whole y.0 n.place x (subst (λ z. CarriesOut same r l s next z op) is carried) (n, at, same_place-refl n.place) way.1 (inl way.0)
  by_up x n remedy whole at (up_in_synced y free way is) carried =
      evict_above whole y.0 n.place x (subst (λ z. CarriesOut same r l s next z op) is carried) (n, at, same_place-refl n.place) way.1 (inr way.0)

  by_remedy : (remedy : Remedy) → IsRemedy same r l s remedy → CarriesOut same r l s next remedy op → Facts
  by_remedy remedy (split x least is) carried = by_split x.0 least (subst (λ z. CarriesOut same r l s next z op) is carried)
  by_remedy remedy (down whole rule) carried = by_down rule.x rule.node whole rule.topmost rule.there remedy rule.clears carried
  by_remedy remedy (up whole clear rule) carried = by_up rule.x rule.node remedy whole rule.there rule.clears carried

pub mends_have_facts : MendsHaveFacts
mends_have_facts same r l s next op good mend =
    by_remedy same r l s next good.fit.remote good.fit.local good.fit.synced good.fit.remote_local good.fit.local_synced good.remote good.local good.synced op
    mend.remedy mend.chosen mend.done
