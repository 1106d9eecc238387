-- Where nothing is due and the first two rules don't apply, nobody wishes Down.
use Rattle.std.proofs.Common.{◌≡◌, ◌⊎◌, ℕ, Bool, Option, None, Some, refl, sym, ap, subst, ◌∙◌, inl, inr}
use Rattle.std.proofs.lemmas.Option.{same_Some}
use Rattle.std.specs.FinMap.{get}
use Rattle.nuc_base.specs.Legal.{IsFree, LegalPut}
use Rattle.nuc_base.specs.SamePlace.{SamePlace, same_place-refl}
use Rattle.nuc_base.specs.Trees.{Nodes, IsFolder, IsUnder, WellFormed}
use Rattle.nuc_base.specs.Trees.Under.{here}
use Rattle.nuc_base.specs.declared.node.Kind.TheVariants.{Folder}
use Rattle.nuc_base.specs.declared.node.Node.{Node}
use Rattle.nuc_base.specs.declared.node.Place.{Place}
use Rattle.nuc_base.proofs.Alike.{legal_alike}
use Rattle.nuc_base.proofs.Maps.{one_node}
use Rattle.nuc_base.proofs.Search.{no_first}
use Rattle.nuc_class.specs.Going.{GoingRemote, Stays}
use Rattle.nuc_class.specs.Merge.{target}
use Rattle.nuc_class.specs.Wishes.{IsWish}
use Rattle.nuc_class.specs.declared.wishes.Wish.{Wish}
use Rattle.nuc_class.specs.declared.wishes.Wish.TheVariants as wish
use Rattle.nuc_class.proofs.Decided.{stays_or_not}
use Rattle.nuc_class.proofs.Rows.{one_wish, some_wish}
use Rattle.nuc_class.proofs.Walk.{going-child}
use Rattle.nuc_conflict.specs.Remedies.{IsClearDown}
use Rattle.nuc_conflict.specs.Topmost.{IsTopmost}
use Rattle.nuc_conflict.proofs.Calm.{Calm, above_synced, calm_above}
use Rattle.nuc_conflict.proofs.Calm.Calm.{stands, goes}
use Rattle.nuc_conflict.proofs.Search.{down_there}
use Rattle.nuc_conflict.proofs.Stuck.{Stuck, not_down}
use Rattle.nuc_conflict.proofs.Targets.{target_kind, target_keeps, target_takes}

-- what stays stands in Local
stays_local : (r l s : Option Node) → Stays r l s → (own : Node) × (l ≡ Some own)
stays_local (Some r) (Some l) (Some s) stays = (l, refl)
stays_local (Some r) (Some l) None stays = absurd stays
stays_local (Some r) None s stays = absurd stays
stays_local None l s stays = absurd stays

same_at : (p q : Place) → p ≡ q → SamePlace p q
same_at p q e = subst (λ z. SamePlace p z) e (same_place-refl p)

pub own_place : (m : Nodes) (x : ℕ) (n : Node) → WellFormed m → get m x ≡ Some n → IsFree m x n.place
own_place m x n form at y k there near = form.places y x k n there at near

module _ (same : ℕ → ℕ → Bool) (r l s : Nodes) (st : Stuck same r l s) where
  pub wish_of : (x : ℕ) → (w : Wish) × IsWish same r l s x w
  wish_of x = some_wish same r l s x st.remote st.local

  module _ (x : ℕ) (n : Node) (at : get r x ≡ Some n) (top : IsTopmost same r l s r wish.Down x) where
    down_synced : IsFree s x n.place → LegalPut s x n
    down_synced free = legal_alike r s x n n st.remote st.synced st.remote_synced at
        (λ a h under there. (h, above_synced same r l s st.remote st.local st.split x n at top a h under there, refl)) (same_place-refl n.place) refl free

    not_going : ¬ (GoingRemote r l s x)
    not_going cut = absurd (let e : wish.Down ≡ wish.CutUp = one_wish same r l s x wish.Down wish.CutUp top.wished cut in cc)

    -- x's parent in Remote is a folder of Local, unless x keeps its place there
    parent_stands : ¬ (Stays (get r x) (get l x) (get s x)) → IsFolder l n.place.parent.0
    parent_stands moved = elim (st.remote.parents x n at) [
      | inl root ↦ inl root
      | inr (p, there, is) ↦ local p there is (calm_above same r l s st.remote st.local st.split x n at top n.place.parent.0 p here there)
    ]
      where
        local : (p : Node) → get r n.place.parent.0 ≡ Some p → p.kind ≡ Folder → Calm same r l s st.remote st.local st.split n.place.parent.0 p → IsFolder l n.place.parent.0
        local p there is (stands own synced in_local) = inr (own, in_local, sym (st.remote_local n.place.parent.0 p own there in_local) ∙ is)
        local p there is (goes synced cut) = absurd (not_going (going-child l r s _ n.place.parent.0 x n cut at refl moved))

    clear : IsClearDown l s x n
    clear = st.down x n top at

    kind_is : (h : Node) → get l x ≡ Some h → h.kind ≡ (target n (get l x) (get s x)).kind
    kind_is h there = sym (st.remote_local x n h at there) ∙ sym (target_kind n (get l x) (get s x))

    -- where x keeps its place in Local
    local_keeps : (own : Node) → get l x ≡ Some own → Stays (get r x) (get l x) (get s x) → LegalPut l x (target n (get l x) (get s x))
    local_keeps own there stays =
        let place : (target n (get l x) (get s x)).place ≡ own.place = keeps (get l x) there (subst (λ o. Stays o (get l x) (get s x)) at stays) in
        legal_alike l l x own (target n (get l x) (get s x)) st.local st.local (λ y a b e f. ap (λ (h : Node). h.kind) (one_node l y a b e f)) there
        (λ a h under stood. (h, stood, refl)) (same_at _ _ place) (sym (kind_is own there))
        (subst (λ z. IsFree l x z) (sym place) (own_place l x own st.local there))
      where
        keeps : (o : Option Node) → o ≡ Some own → Stays (Some n) o (get s x) → (target n o (get s x)).place ≡ own.place
        keeps None e stays = absurd (let no : None ≡ Some own = e in cc)
        keeps (Some k) e stays = target_keeps n k (get s x) stays ∙ ap (λ (h : Node). h.place) (same_Some k own e)

    -- where it comes to its place in Remote
    local_takes : ¬ (Stays (get r x) (get l x) (get s x)) → LegalPut l x (target n (get l x) (get s x))
    local_takes moved =
        let place : (target n (get l x) (get s x)).place ≡ n.place = target_takes n (get l x) (get s x) (subst (λ o. ¬ (Stays o (get l x) (get s x))) at moved) in
        record {
          kind = kind_is;
          parent = subst (λ (p : Place). IsFolder l p.parent.0) (sym place) (parent_stands moved);
          free = subst (λ z. IsFree l x z) (sym place) clear.local;
          no_cycle = subst (λ (p : Place). ¬ (IsUnder l p.parent.0 x)) (sym place) clear.apart;
        }

    local_legal : Stays (get r x) (get l x) (get s x) ⊎ ¬ (Stays (get r x) (get l x) (get s x)) → LegalPut l x (target n (get l x) (get s x))
    local_legal (inl stays) = let own = stays_local (get r x) (get l x) (get s x) stays in local_keeps own.0 own.1 stays
    local_legal (inr moved) = local_takes moved

    step_down : ⊥
    step_down = not_down same r l s st x n at top.wished (local_legal (stays_or_not (get r x) (get l x) (get s x))) (down_synced clear.synced)

  pub no_down : (x : ℕ) → ¬ (IsWish same r l s x wish.Down)
  no_down x = no_first r (λ y. IsWish same r l s y wish.Down) st.remote (λ y wished. down_there same r l s y wished)
      (λ y wished first. let there = down_there same r l s y wished in step_down y there.0 there.1 (record { wished = wished; first = first })) x
