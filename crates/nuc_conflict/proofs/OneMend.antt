-- The three trees have one mend.
use Rattle.std.proofs.Common.{◌≡◌, ℕ, Bool, List, Option, None, Some, refl, sym, ap, subst, ◌∙◌, inl, inr, arith}
use Rattle.std.proofs.lemmas.Bool.{cases_lt}
use Rattle.std.specs.FinMap.{get}
use Rattle.nuc_base.specs.Candidates.{candidate}
use Rattle.nuc_base.specs.Trees.{Nodes}
use Rattle.nuc_base.specs.declared.change.Change.{Change}
use Rattle.nuc_base.specs.declared.change.Change.TheVariants.{Keep, Put, Cut}
use Rattle.nuc_base.specs.declared.node.Node.{Node}
use Rattle.nuc_base.specs.declared.node.Place.{Place}
use Rattle.nuc_base.proofs.Maps.{one_node, same_or_not}
use Rattle.nuc_class.specs.Op.{planned}
use Rattle.nuc_class.specs.declared.op.Effect.TheVariants.{Disk, Nothing}
use Rattle.nuc_class.specs.declared.op.Op.{Op}
use Rattle.nuc_class.specs.declared.op.Verb.TheVariants as verb
use Rattle.nuc_conflict.specs.FreeName.{IsFreeName, IsUnused, place_of}
use Rattle.nuc_conflict.specs.Laws.{MendOrNone, OneMend}
use Rattle.nuc_conflict.specs.Mends.{CarriesOut, IsAdoption, IsEviction, IsMoveBack, IsRevival, IsSplit, LeavesFor, cut_of, local_mend}
use Rattle.nuc_conflict.specs.declared.remedy.Remedy.{Remedy}
use Rattle.nuc_conflict.specs.declared.remedy.Remedy.TheVariants.{Split, Evict, Adopt, Revive, Unmove}
use Rattle.nuc_conflict.proofs.OneRemedy.{not_none, one_remedy}

module _ (r l s : Nodes) (parent : ℕ) (name : List ℕ) where
  unused_at : (free : List ℕ) (first : IsFreeName r l s parent name free) → IsUnused r l s (place_of parent (candidate name first.number))
  unused_at free first = subst (λ n. IsUnused r l s (place_of parent n)) first.is first.unused

  -- a free name is one
  pub one_free_name : (a b : List ℕ) → IsFreeName r l s parent name a → IsFreeName r l s parent name b → a ≡ b
  one_free_name a b first second = elim (same_or_not first.number second.number) [
    | inl e ↦ first.is ∙ ap (candidate name) e ∙ sym second.is
    | inr apart ↦ elim (cases_lt first.number second.number) [
      | inl less ↦ absurd (second.first first.number first.counted less (unused_at a first))
      | inr no_less ↦ absurd (first.first second.number second.counted (omega (arith, no_less, apart)) (unused_at b second))
    ]
  ]

one_leaving : (p e : Place) (o : Option Node) (c d : Change) → LeavesFor p e o c → LeavesFor p e o d → c ≡ d
one_leaving p e (Some n) (Put k) (Put h) first second = ap Put (first.1 ∙ sym second.1)
one_leaving p e (Some n) (Put k) Keep first second = absurd (second first.0)
one_leaving p e (Some n) (Put k) Cut first second = absurd second
one_leaving p e (Some n) Keep (Put h) first second = absurd (first second.0)
one_leaving p e (Some n) Keep Keep first second = refl
one_leaving p e (Some n) Keep Cut first second = absurd second
one_leaving p e (Some n) Cut d first second = absurd first
one_leaving p e None (Put k) d first second = absurd first
one_leaving p e None Keep (Put h) first second = absurd second
one_leaving p e None Keep Keep first second = refl
one_leaving p e None Keep Cut first second = absurd second
one_leaving p e None Cut d first second = absurd first

module _ (same : ℕ → ℕ → Bool) (r l s : Nodes) (next : ℕ) (a b : Op) where
  one_split : (x : ℕ) → IsSplit r l s next x a → IsSplit r l s next x b → a ≡ b
  one_split x first second =
      let node : second.node ≡ first.node = one_node l x second.node first.node second.there first.there in
      let free : IsFreeName r l s first.node.place.parent.0 first.node.place.name second.name =
      subst (λ (h : Node). IsFreeName r l s h.place.parent.0 h.place.name second.name) node second.free in
      let name : first.name ≡ second.name = one_free_name r l s first.node.place.parent.0 first.node.place.name first.name second.name first.free free in
      let Op_of : Node → List ℕ → Op = λ h n.
      local_mend verb.Split x next (Put (record h { place = place_of h.place.parent.0 n })) (cut_of (get s x)) (get l x) (get s x) Disk in
      first.is ∙ ap (λ n. Op_of first.node n) name ∙ ap (λ (h : Node). Op_of h second.name) (sym node) ∙ sym second.is

  one_eviction : (y : ℕ) (p : Place) → IsEviction same r l s y p a → IsEviction same r l s y p b → a ≡ b
  one_eviction y p first second =
      let name : second.name ≡ first.name = one_free_name r l s p.parent.0 p.name second.name first.name second.free first.free in
      let E : List ℕ → Place = λ n. place_of p.parent.0 n in
      let remote : a.remote ≡ b.remote = one_leaving p (E first.name) (get r y) a.remote b.remote first.remote
      (subst (λ n. LeavesFor p (place_of p.parent.0 n) (get r y) b.remote) name second.remote) in
      let local : a.local ≡ b.local = one_leaving p (E first.name) (get l y) a.local b.local first.local
      (subst (λ n. LeavesFor p (place_of p.parent.0 n) (get l y) b.local) name second.local) in
      let synced : a.synced ≡ b.synced = one_leaving p (E first.name) (get s y) a.synced b.synced first.synced
      (subst (λ n. LeavesFor p (place_of p.parent.0 n) (get s y) b.synced) name second.synced) in
      first.is ∙ ap (λ c. planned same verb.Evict y c a.local a.synced (get l y) (get s y)) remote
      ∙ ap (λ c. planned same verb.Evict y b.remote c a.synced (get l y) (get s y)) local
      ∙ ap (λ c. planned same verb.Evict y b.remote b.local c (get l y) (get s y)) synced ∙ sym second.is

  one_adoption : (x y : ℕ) → IsAdoption r l s x y a → IsAdoption r l s x y b → a ≡ b
  one_adoption x y first second =
      let node : first.node ≡ second.node = one_node r x first.node second.node first.there second.there in
      let own : first.own ≡ second.own = one_node l y first.own second.own first.own_there second.own_there in
      first.is ∙ ap (λ (h : Node). local_mend verb.Adopt x y (Put (record h { bit = first.own.bit })) Keep (get l x) (get s x) Nothing) node
      ∙ ap (λ (h : Node). local_mend verb.Adopt x y (Put (record second.node { bit = h.bit })) Keep (get l x) (get s x) Nothing) own ∙ sym second.is

  one_revival : (m : ℕ) → IsRevival r l s m a → IsRevival r l s m b → a ≡ b
  one_revival m first second =
      first.is ∙ ap (λ (h : Node). local_mend verb.Revive m 0 (Put h) Keep (get l m) (get s m) Disk) (one_node r m first.node second.node first.there second.there)
      ∙ sym second.is

  one_move_back : (m : ℕ) → IsMoveBack r l s m a → IsMoveBack r l s m b → a ≡ b
  one_move_back m first second =
      let node : first.node ≡ second.node = one_node r m first.node second.node first.there second.there in
      let own : first.own ≡ second.own = one_node l m first.own second.own first.own_there second.own_there in
      first.is ∙ ap (λ (h : Node). local_mend verb.Unmove m 0 (Put (record first.own { place = h.place })) Keep (get l m) (get s m) Disk) node
      ∙ ap (λ (h : Node). local_mend verb.Unmove m 0 (Put (record h { place = second.node.place })) Keep (get l m) (get s m) Disk) own ∙ sym second.is

  one_carried : (remedy : Remedy) → CarriesOut same r l s next remedy a → CarriesOut same r l s next remedy b → a ≡ b
  one_carried (Split x) first second = one_split x.0 first second
  one_carried (Evict y p) first second = one_eviction y.0 p first second
  one_carried (Adopt x y) first second = one_adoption x.0 y.0 first second
  one_carried (Revive m) first second = one_revival m.0 first second
  one_carried (Unmove m) first second = one_move_back m.0 first second

pub one_mend : OneMend
one_mend same r l s next a b remote local synced first second =
    let e : second.remedy ≡ first.remedy = one_remedy same r l s second.remedy first.remedy remote local synced second.chosen first.chosen in
    one_carried same r l s next a b first.remedy first.done (subst (λ z. CarriesOut same r l s next z b) e second.done)

pub mend_or_none : MendOrNone
mend_or_none same r l s next op mend none = not_none same r l s mend.remedy mend.chosen none
