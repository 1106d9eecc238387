-- What a mend puts is known where the values of the three trees are.
use Rattle.std.proofs.Common.{◌≡◌, ◌≢◌, ◌<◌, ℕ, Bool, false, Option, Some, None, refl, sym, ap, subst}
use Rattle.std.specs.FinMap.{get}
use Rattle.nuc_base.specs.Changes.{IsLegal}
use Rattle.nuc_base.specs.Trees.{Nodes}
use Rattle.nuc_base.specs.declared.change.Change.{Change}
use Rattle.nuc_base.specs.declared.change.Change.TheVariants.{Keep, Put, Cut}
use Rattle.nuc_base.specs.declared.node.Kind.{Kind}
use Rattle.nuc_base.specs.declared.node.Node.{Node}
use Rattle.nuc_base.specs.declared.node.Place.{Place}
use Rattle.nuc_class.specs.declared.op.Effect.{Effect}
use Rattle.nuc_class.specs.declared.op.Effect.TheVariants as effect
use Rattle.nuc_class.specs.declared.op.Op.{Op}
use Rattle.nuc_class.specs.declared.op.Verb.{Verb}
use Rattle.nuc_class.specs.declared.op.Verb.TheVariants as verb
use Rattle.nuc_conflict.specs.Facts.{AdoptionFacts, EvictionFacts, FactsOf, MoveBackFacts, RevivalFacts, SplitFacts}
use Rattle.nuc_conflict.specs.Mends.{LeavesFor, cut_of, local_mend}
use Rattle.nuc_server.specs.WebEdits.{WebState}
use Rattle.nuc_step.specs.Holdings.{IsOf, local_id}
use Rattle.nuc_step.specs.Steps.{is_split}
use Rattle.nuc_world.specs.Form.{IsKnown}
use Rattle.nuc_world.proofs.Grown.{Grows, known_grown}
use Rattle.nuc_world.proofs.Web.{known_along}
use Rattle.nuc_world.proofs.Wished.{OfChange, OfValue, Wishes, nothing_kept, op_known, planned_wishes}

pub wishes_grown : (s t : WebState) (kinds later : ℕ → Kind) → Grows s t kinds later → (op : Op) → Wishes s kinds op → Wishes t later op
wishes_grown s t kinds later grows op wishes = record {
  known = λ x k v holds. known_grown s t kinds later grows x k v (wishes.known x k v holds);
  writes = wishes.writes;
}

module _ (s : WebState) (kinds : ℕ → Kind) where
  -- the same node at another place or with another bit
  leaves_known : (p e : Place) (x : ℕ) (o : Option Node) (c : Change) → OfValue s kinds x o → LeavesFor p e o c → OfChange s kinds x c
  leaves_known p e x (Some n) (Put node) of (near, is) k v puts = of k v (subst (λ (h : Node). (h.kind ≡ k) × (h.ver.0 ≡ v)) is puts)
  leaves_known p e x (Some n) Keep of leaves k v puts = absurd puts
  leaves_known p e x (Some n) Cut of leaves k v puts = absurd puts
  leaves_known p e x None (Put node) of leaves k v puts = absurd leaves
  leaves_known p e x None Keep of leaves k v puts = absurd puts
  leaves_known p e x None Cut of leaves k v puts = absurd puts

  cut_known : (x : ℕ) (o : Option Node) → OfChange s kinds x (cut_of o)
  cut_known x None k v puts = absurd puts
  cut_known x (Some n) k v puts = absurd puts

  local_wishes : (v : Verb) (x y : ℕ) (local synced : Change) (l z : Option Node) (e : Effect) → e ≢ effect.Commit → is_split v ≡ false
      → OfChange s kinds x local → OfChange s kinds x synced → OfValue s kinds x l → OfValue s kinds x z → Wishes s kinds (local_mend v x y local synced l z e)
  local_wishes v x y local synced l z e other whole puts_l puts_s of_l of_z = record {
    known = op_known s kinds (local_mend v x y local synced l z e) (nothing_kept s kinds x)
        (subst (λ b. OfChange s kinds (local_id b (local_mend v x y local synced l z e)) local) (sym whole) puts_l) puts_s of_l of_z;
    writes = λ commits. absurd (other commits);
  }

  module _ (same : ℕ → ℕ → Bool) (r l z : Nodes) (next : ℕ) (op : Op)
      (of_r : (x : ℕ) → OfValue s kinds x (get r x)) (of_l : (x : ℕ) → OfValue s kinds x (get l x)) (of_z : (x : ℕ) → OfValue s kinds x (get z x)) where
    evicted : EvictionFacts same r l z op → Wishes s kinds op
    evicted facts = subst (Wishes s kinds) (sym facts.carried.is)
        (planned_wishes s kinds same verb.Evict op.id.0 op.remote op.local op.synced (get l op.id.0) (get z op.id.0) refl
        (leaves_known _ _ op.id.0 (get r op.id.0) op.remote (of_r op.id.0) facts.carried.remote)
        (leaves_known _ _ op.id.0 (get l op.id.0) op.local (of_l op.id.0) facts.carried.local)
        (leaves_known _ _ op.id.0 (get z op.id.0) op.synced (of_z op.id.0) facts.carried.synced)
        (of_l op.id.0) (of_z op.id.0))

    -- a value that stands there
    there_known : (m : Nodes) → ((x : ℕ) → OfValue s kinds x (get m x)) → (x : ℕ) (n : Node) → get m x ≡ Some n → OfValue s kinds x (Some n)
    there_known m of x n at k v is = of x k v (subst (IsOf k v) (sym at) is)

    adopted : AdoptionFacts same r l z op → Wishes s kinds op
    adopted facts =
        let it = facts.carried in
        subst (Wishes s kinds) (sym it.is)
        (local_wishes verb.Adopt op.id.0 op.other.0 (Put (record it.node { bit = it.own.bit })) Keep (get l op.id.0) (get z op.id.0) effect.Nothing (λ e. cc) refl
        (there_known r of_r op.id.0 it.node it.there) (nothing_kept s kinds op.id.0) (of_l op.id.0) (of_z op.id.0))

    revived : RevivalFacts r l z op → Wishes s kinds op
    revived facts =
        let it = facts.carried in
        subst (Wishes s kinds) (sym it.is)
        (local_wishes verb.Revive op.id.0 0 (Put it.node) Keep (get l op.id.0) (get z op.id.0) effect.Disk (λ e. cc) refl
        (there_known r of_r op.id.0 it.node it.there) (nothing_kept s kinds op.id.0) (of_l op.id.0) (of_z op.id.0))

    moved_back : MoveBackFacts r l z op → Wishes s kinds op
    moved_back facts =
        let it = facts.carried in
        subst (Wishes s kinds) (sym it.is)
        (local_wishes verb.Unmove op.id.0 0 (Put (record it.own { place = it.node.place })) Keep (get l op.id.0) (get z op.id.0) effect.Disk (λ e. cc) refl
        (there_known l of_l op.id.0 it.own it.own_there) (nothing_kept s kinds op.id.0) (of_l op.id.0) (of_z op.id.0))

    pub mend_wishes : (v : Verb) → v ≢ verb.Split → FactsOf same r l z next op v → Wishes s kinds op
    mend_wishes verb.Split other facts = absurd (other refl)
    mend_wishes verb.Evict other facts = evicted facts
    mend_wishes verb.Adopt other facts = adopted facts
    mend_wishes verb.Revive other facts = revived facts
    mend_wishes verb.Unmove other facts = moved_back facts
    mend_wishes verb.Down other facts = absurd facts
    mend_wishes verb.Up other facts = absurd facts
    mend_wishes verb.CutDown other facts = absurd facts
    mend_wishes verb.CutUp other facts = absurd facts
    mend_wishes verb.Forget other facts = absurd facts

    -- a commit of a mend is legal in Remote, where it writes that
    pub mend_legal : (v : Verb) → FactsOf same r l z next op v → IsLegal r op.id.0 op.remote
    mend_legal verb.Split facts = subst (IsLegal r op.id.0) (sym (ap (λ (o : Op). o.remote) facts.carried.is)) tt
    mend_legal verb.Evict facts = facts.legal.remote
    mend_legal verb.Adopt facts = subst (IsLegal r op.id.0) (sym (ap (λ (o : Op). o.remote) facts.carried.is)) tt
    mend_legal verb.Revive facts = facts.legal.remote
    mend_legal verb.Unmove facts = facts.legal.remote
    mend_legal verb.Down facts = absurd facts
    mend_legal verb.Up facts = absurd facts
    mend_legal verb.CutDown facts = absurd facts
    mend_legal verb.CutUp facts = absurd facts
    mend_legal verb.Forget facts = absurd facts

-- A SPLIT: the next identity has the kind of the one whose version it gets
module _ (s : WebState) (kinds : ℕ → Kind) (same : ℕ → ℕ → Bool) (r l z : Nodes) (next : ℕ) (op : Op)
    (of_l : (x : ℕ) → OfValue s kinds x (get l x)) (of_z : (x : ℕ) → OfValue s kinds x (get z x)) (facts : SplitFacts same r l z next op)
    (t : WebState) (later : ℕ → Kind) (grows : Grows s t kinds later) (kind : later next ≡ facts.carried.node.kind) (below : next < t.ids.next_id) where
  split_value : (x : ℕ) (o : Option Node) → OfValue s kinds x o → OfValue t later x o
  split_value x o of k v is = known_grown s t kinds later grows x k v (of k v is)

  copied : OfValue t later next (Some facts.carried.node)
  copied k v (kind_is, ver_is) =
      let node = facts.carried.node in
      let own : IsKnown t later op.id.0 node.kind node.ver.0 =
      known_grown s t kinds later grows op.id.0 node.kind node.ver.0 (of_l op.id.0 node.kind node.ver.0 (subst (IsOf node.kind node.ver.0) (sym facts.carried.there) (refl, refl))) in
      known_along t later next next node.kind k node.ver.0 v refl kind_is ver_is (record { kind = sym kind; below = below; put = own.put })

  pub split_wishes : Wishes t later op
  split_wishes =
      let it = facts.carried in
      subst (Wishes t later) (sym it.is) (record {
        known = op_known t later (local_mend verb.Split op.id.0 next _ (cut_of (get z op.id.0)) (get l op.id.0) (get z op.id.0) effect.Disk)
            (nothing_kept t later op.id.0) copied (cut_known t later op.id.0 (get z op.id.0))
            (split_value op.id.0 (get l op.id.0) (of_l op.id.0)) (split_value op.id.0 (get z op.id.0) (of_z op.id.0));
        writes = λ commits. cc;
      })
