-- An eviction is legal, and leaves alone the tree in which another keeps the place.
use Rattle.std.proofs.Common.{◌≡◌, ◌≢◌, ◌⊎◌, ℕ, Bool, Option, None, Some, List, refl, sym, ap, subst, inl, inr}
use Rattle.std.specs.FinMap.{get}
use Rattle.nuc_base.specs.Changes.{IsLegal, FitsChange}
use Rattle.nuc_base.specs.Legal.{LegalPut}
use Rattle.nuc_base.specs.SamePlace.{SamePlace}
use Rattle.nuc_base.specs.Trees.{Nodes, IsFolder, IsUnder, IsVacant, StandsAt, WellFormed}
use Rattle.nuc_base.specs.declared.change.Change.{Change}
use Rattle.nuc_base.specs.declared.change.Change.TheVariants.{Keep, Put, Cut}
use Rattle.nuc_base.specs.declared.node.Node.{Node}
use Rattle.nuc_base.specs.declared.node.Place.{Place}
use Rattle.nuc_base.proofs.Depths.{no_loop}
use Rattle.nuc_base.proofs.Maps.{one_node}
use Rattle.nuc_base.proofs.Places.{one_holder}
use Rattle.nuc_class.specs.Due.{FitsOp, IsLegalOp}
use Rattle.nuc_class.specs.declared.op.Op.{Op}
use Rattle.nuc_conflict.specs.Facts.{EvictionFacts}
use Rattle.nuc_conflict.specs.FreeName.{place_of}
use Rattle.nuc_conflict.specs.Mends.{IsEviction, LeavesFor}
use Rattle.nuc_conflict.specs.Topmost.{NoSplit}
use Rattle.nuc_conflict.proofs.Calm.{calm_of, calm_synced}

-- what hasn't the place stays
leaves_stays : (p e : Place) (o : Option Node) (c : Change) → LeavesFor p e o c → ((n : Node) → o ≡ Some n → ¬ (SamePlace n.place p)) → c ≡ Keep
leaves_stays p e (Some n) (Put k) leaves off = absurd (off n refl leaves.0)
leaves_stays p e (Some n) Keep leaves off = refl
leaves_stays p e (Some n) Cut leaves off = absurd leaves
leaves_stays p e None (Put k) leaves off = absurd leaves
leaves_stays p e None Keep leaves off = refl
leaves_stays p e None Cut leaves off = absurd leaves

-- what leaves for a place that nobody has may do so
leaves_legal : (m : Nodes) (y : ℕ) (p : Place) (name : List ℕ) (c : Change) (o : Option Node) → WellFormed m → IsVacant m (place_of p.parent.0 name) → get m y ≡ o
    → LeavesFor p (place_of p.parent.0 name) o c → IsLegal m y c
leaves_legal m y p name (Put k) (Some n) form vacant at leaves =
    subst (λ (h : Node). LegalPut m y h) (sym leaves.1) (record {
      kind = λ h there. ap (λ (i : Node). i.kind) (one_node m y h n there at);
      parent = subst (λ q. IsFolder m q) leaves.0.parent (form.parents y n at);
      free = λ z h there near. absurd (vacant z h there near);
      no_cycle = λ u. no_loop m y n form at (subst (λ q. IsUnder m q y) (sym leaves.0.parent) u);
    })
leaves_legal m y p name Keep o form vacant at leaves = tt
leaves_legal m y p name (Put k) None form vacant at leaves = absurd leaves
leaves_legal m y p name Cut (Some n) form vacant at leaves = absurd leaves
leaves_legal m y p name Cut None form vacant at leaves = absurd leaves

leaves_fits : (m : Nodes) (y : ℕ) (p e : Place) (c : Change) (o : Option Node) → WellFormed m → get m y ≡ o → LeavesFor p e o c → FitsChange c
leaves_fits m y p e (Put k) (Some n) form at leaves = subst (λ (h : Node). FitsChange (Put h)) (sym leaves.1) (form.fits y n at)
leaves_fits m y p e Keep o form at leaves = tt
leaves_fits m y p e (Put k) None form at leaves = absurd leaves
leaves_fits m y p e Cut (Some n) form at leaves = absurd leaves
leaves_fits m y p e Cut None form at leaves = absurd leaves

-- where another has the place, nobody else has
not_there : (m : Nodes) (h y : ℕ) (p : Place) → WellFormed m → StandsAt m h p → h ≢ y → (n : Node) → get m y ≡ Some n → ¬ (SamePlace n.place p)
not_there m h y p form holds apart n at near = apart (one_holder m h y p form holds (n, at, near))

module _ (same : ℕ → ℕ → Bool) (r l s : Nodes) (remote : WellFormed r) (local : WellFormed l) (synced : WellFormed s)
    (op : Op) (p : Place) (carried : IsEviction same r l s op.id.0 p op) (h : ℕ) (apart : h ≢ op.id.0) where
  legal : IsLegalOp r l s op
  legal = record {
    remote = leaves_legal r op.id.0 p carried.name op.remote (get r op.id.0) remote carried.free.unused.remote refl carried.remote;
    local = leaves_legal l op.id.0 p carried.name op.local (get l op.id.0) local carried.free.unused.local refl carried.local;
    synced = leaves_legal s op.id.0 p carried.name op.synced (get s op.id.0) synced carried.free.unused.synced refl carried.synced;
  }

  fits : FitsOp op
  fits = record {
    remote = leaves_fits r op.id.0 p _ op.remote (get r op.id.0) remote refl carried.remote;
    local = leaves_fits l op.id.0 p _ op.local (get l op.id.0) local refl carried.local;
    synced = leaves_fits s op.id.0 p _ op.synced (get s op.id.0) synced refl carried.synced;
  }

  -- one that keeps the place in Remote
  pub evicted_below : StandsAt r h p → StandsAt l op.id.0 p ⊎ StandsAt s op.id.0 p → EvictionFacts same r l s op
  evicted_below holds moved = record {
    place = p;
    carried = carried;
    holder = h;
    other = apart;
    kept = inl (holds, leaves_stays p _ (get r op.id.0) op.remote carried.remote (not_there r h op.id.0 p remote holds apart));
    moved = inr moved;
    agreed = λ no_down n at near. absurd (not_there r h op.id.0 p remote holds apart n at near);
    legal = legal;
    fits = fits;
  }

  -- one that keeps it in Local
  pub evicted_above : NoSplit same r l s → StandsAt l h p → StandsAt r op.id.0 p ⊎ StandsAt s op.id.0 p → EvictionFacts same r l s op
  evicted_above whole holds moved = record {
    place = p;
    carried = carried;
    holder = h;
    other = apart;
    kept = inr (holds, leaves_stays p _ (get l op.id.0) op.local carried.local (not_there l h op.id.0 p local holds apart));
    moved = elim moved [ inl in_remote ↦ inl in_remote | inr in_synced ↦ inr (inr in_synced) ];
    agreed = λ no_down n at near.
        calm_synced same r l s remote local whole op.id.0 n (calm_of same r l s remote local whole op.id.0 n at (no_down op.id.0));
    legal = legal;
    fits = fits;
  }
