-- What holds of a mend of trees that fit together, by its verb: what it rests on, and that its changes are legal.
use Rattle.std.specs.Prelude.{◌≡◌, ◌≢◌, ◌⊎◌, ℕ, Bool, None, Some}
use Rattle.std.specs.FinMap.{get}
use Rattle.nuc_base.specs.Changes.{changed, IsLegal}
use Rattle.nuc_base.specs.Legal.{IsFree, LegalCut}
use Rattle.nuc_base.specs.Renamed.{IsRenamed}
use Rattle.nuc_base.specs.SamePlace.{SamePlace}
use Rattle.nuc_base.specs.Trees.{Nodes, StandsAt, WellFormed}
use Rattle.nuc_base.specs.declared.change.Change.TheVariants.{Keep}
use Rattle.nuc_base.specs.declared.node.Kind.TheVariants.{Folder, File}
use Rattle.nuc_base.specs.declared.node.Node.{Node}
use Rattle.nuc_base.specs.declared.node.Place.{Place}
use Rattle.nuc_class.specs.Due.{FitsOp, IsLegalOp}
use Rattle.nuc_class.specs.Wishes.{IsWish}
use Rattle.nuc_class.specs.declared.op.Op.{Op}
use Rattle.nuc_class.specs.declared.op.Verb.{Verb}
use Rattle.nuc_class.specs.declared.op.Verb.TheVariants as verb
use Rattle.nuc_class.specs.declared.wishes.Wish.TheVariants as wish
use Rattle.nuc_conflict.specs.Mends.{IsAdoption, IsEviction, IsMoveBack, IsRevival, IsSplit}
use Rattle.nuc_conflict.specs.Remedies.{IsAlike}

-- a file that needs a split: its copy comes to Local under a number that nobody has, and then the file can go in Local and
-- in Synced
pub record SplitFacts (same : ℕ → ℕ → Bool) (r l s : Nodes) (next : ℕ) (op : Op) : Type 0 where
  pub carried : IsSplit r l s next op.id.0 op
  pub wished : IsWish same r l s op.id.0 wish.Split
  pub own : Node
  pub there : get l op.id.0 ≡ Some own
  pub file : own.kind ≡ File
  pub new_in_remote : get r next ≡ None
  pub new_in_local : get l next ≡ None
  pub new_in_synced : get s next ≡ None
  pub local_put : IsLegal l next op.local
  pub local_cut : LegalCut (changed l next op.local) op.id.0
  pub synced : IsLegal s op.id.0 op.synced
  pub fits : FitsOp op

-- an identity that has the place of another, the holder, which keeps it in Remote or in Local, where the eviction changes
-- nothing. It stands at the place in one of the trees at least; and if that is Remote, and nobody wishes Down, then
-- Synced has the same node
pub record EvictionFacts (same : ℕ → ℕ → Bool) (r l s : Nodes) (op : Op) : Type 0 where
  pub place : Place
  pub carried : IsEviction same r l s op.id.0 place op
  pub holder : ℕ
  pub other : holder ≢ op.id.0
  pub kept : (StandsAt r holder place × (op.remote ≡ Keep)) ⊎ (StandsAt l holder place × (op.local ≡ Keep))
  pub moved : StandsAt r op.id.0 place ⊎ (StandsAt l op.id.0 place ⊎ StandsAt s op.id.0 place)
  pub agreed : ((x : ℕ) → ¬ (IsWish same r l s x wish.Down)) → (n : Node) → get r op.id.0 ≡ Some n → SamePlace n.place place → get s op.id.0 ≡ Some n
  pub legal : IsLegalOp r l s op
  pub fits : FitsOp op

-- two of one place, kind and content, one in Remote alone and one in Local alone; and Local stays well formed when the second
-- gets the number of the first
pub record AdoptionFacts (same : ℕ → ℕ → Bool) (r l s : Nodes) (op : Op) : Type 0 where
  pub carried : IsAdoption r l s op.id.0 op.other.0 op
  pub node : Node
  pub own : Node
  pub there : get r op.id.0 ≡ Some node
  pub own_there : get l op.other.0 ≡ Some own
  pub alone : (get l op.id.0 ≡ None) × (get s op.id.0 ≡ None)
  pub own_alone : (get r op.other.0 ≡ None) × (get s op.other.0 ≡ None)
  pub place : own.place ≡ node.place
  pub kind : own.kind ≡ node.kind
  pub alike : IsAlike same node.kind node.ver.0 own.kind own.ver.0
  pub free : IsFree s op.id.0 node.place
  pub renamed : (k : Nodes) → IsRenamed l op.other.0 op.id.0 (record node { bit = own.bit }) k → WellFormed k
  pub fits : FitsOp op

-- a folder that Remote and Synced have alike, and Local hasn't
pub record RevivalFacts (r l s : Nodes) (op : Op) : Type 0 where
  pub carried : IsRevival r l s op.id.0 op
  pub node : Node
  pub there : get r op.id.0 ≡ Some node
  pub synced : get s op.id.0 ≡ Some node
  pub folder : node.kind ≡ Folder
  pub gone : get l op.id.0 ≡ None
  pub legal : IsLegalOp r l s op
  pub fits : FitsOp op

-- a folder that Remote and Synced have alike, and Local has below another parent; afterwards Local has it alike too
pub record MoveBackFacts (r l s : Nodes) (op : Op) : Type 0 where
  pub carried : IsMoveBack r l s op.id.0 op
  pub node : Node
  pub own : Node
  pub there : get r op.id.0 ≡ Some node
  pub synced : get s op.id.0 ≡ Some node
  pub folder : node.kind ≡ Folder
  pub own_there : get l op.id.0 ≡ Some own
  pub apart : own.place.parent.0 ≢ node.place.parent.0
  pub becomes : record own { place = node.place } ≡ node
  pub legal : IsLegalOp r l s op
  pub fits : FitsOp op

-- by the verb; no other verb is a mend's
abbrev pub FactsOf : (ℕ → ℕ → Bool) → Nodes → Nodes → Nodes → ℕ → Op → Verb → Type 0
FactsOf same r l s next op verb.Split = SplitFacts same r l s next op
FactsOf same r l s next op verb.Evict = EvictionFacts same r l s op
FactsOf same r l s next op verb.Adopt = AdoptionFacts same r l s op
FactsOf same r l s next op verb.Revive = RevivalFacts r l s op
FactsOf same r l s next op verb.Unmove = MoveBackFacts r l s op
FactsOf same r l s next op verb.Down = ⊥
FactsOf same r l s next op verb.Up = ⊥
FactsOf same r l s next op verb.CutDown = ⊥
FactsOf same r l s next op verb.CutUp = ⊥
FactsOf same r l s next op verb.Forget = ⊥

abbrev pub MendFacts : (ℕ → ℕ → Bool) → Nodes → Nodes → Nodes → ℕ → Op → Type 0
MendFacts same r l s next op = FactsOf same r l s next op op.verb
