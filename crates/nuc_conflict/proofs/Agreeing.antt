-- Where nothing is due, and the mend writes Remote, Synced has the same node there.
use Rattle.std.proofs.Common.{◌≡◌, ◌≢◌, ℕ, Bool, Option, None, Some, refl, sym, ap, subst, ◌∙◌}
use Rattle.std.specs.FinMap.{get}
use Rattle.nuc_base.specs.SamePlace.{SamePlace, same_place-refl}
use Rattle.nuc_base.specs.Trees.{Nodes, StandsAt}
use Rattle.nuc_base.specs.declared.change.Change.{Change}
use Rattle.nuc_base.specs.declared.change.Change.TheVariants.{Keep, Put, Cut}
use Rattle.nuc_base.specs.declared.node.Node.{Node}
use Rattle.nuc_base.specs.declared.node.NodeId.{NodeId}
use Rattle.nuc_base.specs.declared.node.Place.{Place}
use Rattle.nuc_base.proofs.Places.{one_holder}
use Rattle.nuc_class.specs.Due.{NothingDue}
use Rattle.nuc_class.specs.Wishes.{IsWish}
use Rattle.nuc_class.specs.declared.op.Op.{Op}
use Rattle.nuc_class.specs.declared.op.Verb.{Verb}
use Rattle.nuc_class.specs.declared.op.Verb.TheVariants as verb
use Rattle.nuc_class.specs.declared.wishes.Wish.TheVariants as wish
use Rattle.nuc_conflict.specs.Facts.{FactsOf, MendFacts}
use Rattle.nuc_conflict.specs.FitTogether.{FitTogether}
use Rattle.nuc_conflict.specs.FreeName.{place_of}
use Rattle.nuc_conflict.specs.Mends.{CarriesOut, IsMend, LeavesFor}
use Rattle.nuc_conflict.specs.Remedies.{ClearsDown, IsDownClear, IsRemedy}
use Rattle.nuc_conflict.specs.Remedies.ClearsDown.{below, in_local, in_synced}
use Rattle.nuc_conflict.specs.Remedies.IsRemedy.{down, split, up}
use Rattle.nuc_conflict.specs.Topmost.{NoSplit}
use Rattle.nuc_conflict.specs.declared.remedy.Remedy.{Remedy}
use Rattle.nuc_conflict.specs.declared.remedy.Remedy.TheVariants.{Split, Evict, Adopt, Revive, Unmove}
use Rattle.nuc_conflict.proofs.Downs.{no_down}

-- who isn't at the place doesn't leave it
not_there-keeps : (p e : Place) (o : Option Node) (c : Change) → ((n : Node) → o ≡ Some n → ¬ (SamePlace n.place p)) → LeavesFor p e o c → c ≡ Keep
not_there-keeps p e (Some n) (Put k) off leaves = absurd (off n refl leaves.0)
not_there-keeps p e (Some n) Keep off leaves = refl
not_there-keeps p e (Some n) Cut off leaves = absurd leaves
not_there-keeps p e None (Put k) off leaves = absurd leaves
not_there-keeps p e None Keep off leaves = refl
not_there-keeps p e None Cut off leaves = absurd leaves

-- and who leaves stood there
leaves-there : (p e : Place) (o : Option Node) (c : Change) → LeavesFor p e o c → c ≢ Keep → (n : Node) × (o ≡ Some n) × SamePlace n.place p
leaves-there p e (Some n) (Put k) leaves other = (n, refl, leaves.0)
leaves-there p e (Some n) Keep leaves other = absurd (other refl)
leaves-there p e (Some n) Cut leaves other = absurd leaves
leaves-there p e None (Put k) leaves other = absurd leaves
leaves-there p e None Keep leaves other = absurd (other refl)
leaves-there p e None Cut leaves other = absurd leaves

module _ (same : ℕ → ℕ → Bool) (r l s : Nodes) (next : ℕ) (op : Op) (fit : FitTogether r l s) (nothing : (x : ℕ) → NothingDue same r l s x)
    (facts : MendFacts same r l s next op) where
  abbrev Agrees : Type 0
  Agrees = op.remote ≢ Keep → get s op.id.0 ≡ get r op.id.0

  -- a place that another has in Remote isn't left there
  other_holds : (h : ℕ) (p e : Place) → StandsAt r h p → op.id.0 ≢ h → LeavesFor p e (get r op.id.0) op.remote → op.remote ≡ Keep
  other_holds h p e holds other leaves =
      not_there-keeps p e (get r op.id.0) op.remote (λ n at near. other (one_holder r op.id.0 h p fit.remote (n, at, near) holds)) leaves

  -- where nobody wishes Down
  calm_agrees : ((x : ℕ) → ¬ (IsWish same r l s x wish.Down)) → (v : Verb) → FactsOf same r l s next op v → Agrees
  calm_agrees calm verb.Evict evicts other =
      let (n, at, near) = leaves-there _ _ (get r op.id.0) op.remote evicts.carried.remote other in
      evicts.agreed calm n at near ∙ sym at
  calm_agrees calm verb.Split splits other = absurd (other (ap (λ (o : Op). o.remote) splits.carried.is))
  calm_agrees calm verb.Adopt adopts other = absurd (other (ap (λ (o : Op). o.remote) adopts.carried.is))
  calm_agrees calm verb.Revive revives other = absurd (other (ap (λ (o : Op). o.remote) revives.carried.is))
  calm_agrees calm verb.Unmove moves other = absurd (other (ap (λ (o : Op). o.remote) moves.carried.is))
  calm_agrees calm verb.Down never other = absurd never
  calm_agrees calm verb.Up never other = absurd never
  calm_agrees calm verb.CutDown never other = absurd never
  calm_agrees calm verb.CutUp never other = absurd never
  calm_agrees calm verb.Forget never other = absurd never

  up_agrees : NoSplit same r l s → IsDownClear same r l s → Agrees
  up_agrees whole clear = calm_agrees (no_down same r l s (record {
    remote = fit.remote;
    local = fit.local;
    synced = fit.synced;
    remote_local = fit.remote_local;
    remote_synced = fit.remote_synced;
    local_synced = fit.local_synced;
    nothing = nothing;
    split = whole;
    down = clear;
  })) op.verb facts

  same_evicted : (y z : NodeId) (p q : Place) → Evict y p ≡ Evict z q → (y ≡ z) × (p ≡ q)
  same_evicted y z p q e = (cc, cc)

  -- the second rule evicts from the place of one that has it in Remote
  keeps_by : (x : ℕ) (n : Node) (y : NodeId) (p e : Place) → get r x ≡ Some n → op.id.0 ≡ y.0 → LeavesFor p e (get r op.id.0) op.remote
      → ClearsDown same r l s x n (Evict y p) → op.remote ≡ Keep
  keeps_by x n y p e there id leaves (in_synced z way is) =
      let (who, where_) = same_evicted y z p n.place is in
      other_holds x p e (n, there, subst (SamePlace n.place) (sym where_) (same_place-refl n.place))
      (λ same_id. way.1 (sym (ap (λ (i : NodeId). i.0) who) ∙ sym id ∙ same_id)) leaves
  keeps_by x n y p e there id leaves (in_local z free way makes) =
      other_holds x p e (n, there, subst (SamePlace n.place) (sym makes.1) (same_place-refl n.place))
      (λ same_id. way.1 (sym makes.0 ∙ sym id ∙ same_id)) leaves
  keeps_by x n y p e there id leaves (below free_s free_l under unblocks) =
      let top = unblocks.node in
      other_holds unblocks.top p e (top, unblocks.blocker.there, subst (SamePlace top.place) (sym unblocks.clears.1) (same_place-refl top.place))
      (λ same_id. unblocks.clears.0.1 (sym id ∙ same_id)) leaves

  agrees_by : (remedy : Remedy) → IsRemedy same r l s remedy → CarriesOut same r l s next remedy op → Agrees
  agrees_by (Split x) chosen done other = absurd (other (ap (λ (o : Op). o.remote) done.is))
  agrees_by (Adopt x y) chosen done other = absurd (other (ap (λ (o : Op). o.remote) done.is))
  agrees_by (Revive m) chosen done other = absurd (other (ap (λ (o : Op). o.remote) done.is))
  agrees_by (Unmove m) chosen done other = absurd (other (ap (λ (o : Op). o.remote) done.is))
  agrees_by (Evict y p) (split x least is) done other = absurd (let clash : Evict y p ≡ Split x = is in cc)
  agrees_by (Evict y p) (up whole clear remedy) done other = up_agrees whole clear other
  agrees_by (Evict y p) (down whole remedy) done other =
      let id : op.id.0 ≡ y.0 = ap (λ (o : Op). o.id.0) done.is in
      let free : Place = place_of p.parent.0 done.name in
      absurd (other (keeps_by remedy.x remedy.node y p free remedy.there id
      (subst (λ z. LeavesFor p free (get r z) op.remote) (sym id) done.remote) remedy.clears))

  pub mend_agrees : IsMend same r l s next op → Agrees
  mend_agrees mend = agrees_by mend.remedy mend.chosen mend.done
