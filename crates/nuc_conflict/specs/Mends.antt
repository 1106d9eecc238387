-- The operation that carries out a remedy.
use Rattle.std.specs.Prelude.{◌≡◌, ℕ, Bool, List, Option, None, Some}
use Rattle.std.specs.FinMap.{get}
use Rattle.nuc_base.specs.SamePlace.{SamePlace}
use Rattle.nuc_base.specs.Trees.{Nodes, IsThere}
use Rattle.nuc_base.specs.declared.change.Change.{Change}
use Rattle.nuc_base.specs.declared.change.Change.TheVariants.{Keep, Put, Cut}
use Rattle.nuc_base.specs.declared.node.Node.{Node}
use Rattle.nuc_base.specs.declared.node.Place.{Place}
use Rattle.nuc_class.specs.Op.{planned}
use Rattle.nuc_class.specs.declared.op.Effect.{Effect}
use Rattle.nuc_class.specs.declared.op.Effect.TheVariants.{Nothing, Disk}
use Rattle.nuc_class.specs.declared.op.Op.{Op}
use Rattle.nuc_class.specs.declared.op.Verb.{Verb}
use Rattle.nuc_class.specs.declared.op.Verb.TheVariants as verb
use Rattle.nuc_conflict.specs.FreeName.{IsFreeName, place_of}
use Rattle.nuc_conflict.specs.Remedies.{IsRemedy}
use Rattle.nuc_conflict.specs.declared.remedy.Remedy.{Remedy}
use Rattle.nuc_conflict.specs.declared.remedy.Remedy.TheVariants.{Split, Evict, Adopt, Revive, Unmove}

-- an operation that changes Local so, and Remote not at all
abbrev pub local_mend : Verb → ℕ → ℕ → Change → Change → Option Node → Option Node → Effect → Op
local_mend verb id other local synced l s effect = record {
  number = 0;
  verb = verb;
  id = record { 0 = id };
  other = record { 0 = other };
  remote = Keep;
  local = local;
  synced = synced;
  old_local = l;
  old_synced = s;
  base = 0;
  effect = effect;
}

-- what stands there goes
abbrev pub cut_of : Option Node → Change
cut_of None = Keep
cut_of (Some n) = Cut

-- what Local has of x becomes a file of its own, the identity z, with a free name beside x; and x goes in Local and, where it
-- stands there, in Synced
pub record IsSplit (r l s : Nodes) (z x : ℕ) (op : Op) : Type 0 where
  pub node : Node
  pub name : List ℕ
  pub there : get l x ≡ Some node
  pub free : IsFreeName r l s node.place.parent.0 node.place.name name
  pub is : op ≡ local_mend verb.Split x z (Put (record node { place = place_of node.place.parent.0 name })) (cut_of (get s x)) (get l x) (get s x) Disk

-- what has the place p in a tree comes to the place e there; what hasn't stays
abbrev pub LeavesFor : Place → Place → Option Node → Change → Type 0
LeavesFor p e (Some n) (Put node) = SamePlace n.place p × (node ≡ record n { place = e })
LeavesFor p e (Some n) Keep = ¬ (SamePlace n.place p)
LeavesFor p e (Some n) Cut = ⊥
LeavesFor p e None (Put node) = ⊥
LeavesFor p e None Keep = Unit {0}
LeavesFor p e None Cut = ⊥

-- in each tree in which y has the place p, it gets a free name below the same parent
pub record IsEviction (same : ℕ → ℕ → Bool) (r l s : Nodes) (y : ℕ) (p : Place) (op : Op) : Type 0 where
  pub name : List ℕ
  pub free : IsFreeName r l s p.parent.0 p.name name
  pub remote : LeavesFor p (place_of p.parent.0 name) (get r y) op.remote
  pub local : LeavesFor p (place_of p.parent.0 name) (get l y) op.local
  pub synced : LeavesFor p (place_of p.parent.0 name) (get s y) op.synced
  pub is : op ≡ planned same verb.Evict y op.remote op.local op.synced (get l y) (get s y)

-- y becomes x in Local, with Remote's node but the bit that y has on the disk
pub record IsAdoption (r l s : Nodes) (x y : ℕ) (op : Op) : Type 0 where
  pub node : Node
  pub own : Node
  pub there : get r x ≡ Some node
  pub own_there : get l y ≡ Some own
  pub is : op ≡ local_mend verb.Adopt x y (Put (record node { bit = own.bit })) Keep (get l x) (get s x) Nothing

-- m comes back to Local as it is in Remote
pub record IsRevival (r l s : Nodes) (m : ℕ) (op : Op) : Type 0 where
  pub node : Node
  pub there : get r m ≡ Some node
  pub is : op ≡ local_mend verb.Revive m 0 (Put node) Keep (get l m) (get s m) Disk

-- m goes back in Local to its place in Remote, and keeps its version and bit
pub record IsMoveBack (r l s : Nodes) (m : ℕ) (op : Op) : Type 0 where
  pub node : Node
  pub own : Node
  pub there : get r m ≡ Some node
  pub own_there : get l m ≡ Some own
  pub is : op ≡ local_mend verb.Unmove m 0 (Put (record own { place = node.place })) Keep (get l m) (get s m) Disk

-- the operation carries out the remedy; the identity `next` is the next that nobody has
abbrev pub CarriesOut : (ℕ → ℕ → Bool) → Nodes → Nodes → Nodes → ℕ → Remedy → Op → Type 0
CarriesOut same r l s next (Split x) op = IsSplit r l s next x.0 op
CarriesOut same r l s next (Evict y p) op = IsEviction same r l s y.0 p op
CarriesOut same r l s next (Adopt x y) op = IsAdoption r l s x.0 y.0 op
CarriesOut same r l s next (Revive m) op = IsRevival r l s m.0 op
CarriesOut same r l s next (Unmove m) op = IsMoveBack r l s m.0 op

-- the mend of the three trees: the operation that carries out their remedy
pub record IsMend (same : ℕ → ℕ → Bool) (r l s : Nodes) (next : ℕ) (op : Op) : Type 0 where
  pub remedy : Remedy
  pub chosen : IsRemedy same r l s remedy
  pub done : CarriesOut same r l s next remedy op

-- the identities that a remedy speaks of stand where it takes their nodes from
abbrev pub HasParts : Nodes → Nodes → Remedy → Type 0
HasParts r l (Split x) = IsThere l x.0
HasParts r l (Evict y p) = Unit {0}
HasParts r l (Adopt x y) = IsThere r x.0 × IsThere l y.0
HasParts r l (Revive m) = IsThere r m.0
HasParts r l (Unmove m) = IsThere r m.0 × IsThere l m.0
