-- What clears the way where something is wished and nothing can be carried out: three rules, of which the first that
-- applies is taken.
use Rattle.std.specs.Prelude.{◌≡◌, ◌≢◌, ℕ, Bool, IsTrue, Option, None, Some}
use Rattle.std.specs.FinMap.{get}
use Rattle.nuc_base.specs.Legal.{IsFree}
use Rattle.nuc_base.specs.Trees.{Nodes, Alike, IsThere, IsUnder, StandsAt}
use Rattle.nuc_base.specs.declared.node.Kind.{Kind}
use Rattle.nuc_base.specs.declared.node.Kind.TheVariants.{Folder, File}
use Rattle.nuc_base.specs.declared.node.Node.{Node}
use Rattle.nuc_base.specs.declared.node.NodeId.{NodeId}
use Rattle.nuc_base.specs.declared.node.Place.{Place}
use Rattle.nuc_class.specs.Split.{same_content}
use Rattle.nuc_class.specs.declared.wishes.Wish.TheVariants as wish
use Rattle.nuc_conflict.specs.Topmost.{NoSplit, IsLeastSplit, IsTopmost}
use Rattle.nuc_conflict.specs.declared.remedy.Remedy.{Remedy}
use Rattle.nuc_conflict.specs.declared.remedy.Remedy.TheVariants.{Split, Evict, Adopt, Revive, Unmove}

-- y, which isn't x, has in the tree m the place p
abbrev pub IsInTheWay : Nodes → Place → ℕ → ℕ → Type 0
IsInTheWay m p x y = StandsAt m y p × (y ≢ x)

-- both are folders, or both are files of one content
abbrev pub IsAlike : (ℕ → ℕ → Bool) → Kind → ℕ → Kind → ℕ → Type 0
IsAlike same Folder v Folder w = Unit {0}
IsAlike same Folder v File w = ⊥
IsAlike same File v Folder w = ⊥
IsAlike same File v File w = IsTrue (same_content same w v)

-- x, which is n in Remote and stands nowhere else, and y, which stands in Local alone, were made alike on the two sides:
-- they have one name, byte for byte, and are both folders, or both files of one content
pub record CanAdopt (same : ℕ → ℕ → Bool) (r l s : Nodes) (x : ℕ) (n : Node) (y : ℕ) : Type 0 where
  pub node : Node
  pub there : get l y ≡ Some node
  pub new_in_remote : (get l x ≡ None) × (get s x ≡ None)
  pub new_in_local : (get r y ≡ None) × (get s y ≡ None)
  pub name : n.place.name ≡ node.place.name
  pub alike : IsAlike same n.kind n.ver.0 node.kind node.ver.0

-- y has in Local the place that x, which is n in Remote, is to have: they become one where they can, else y goes
abbrev pub MakesRoom : (ℕ → ℕ → Bool) → Nodes → Nodes → Nodes → ℕ → Node → ℕ → Remedy → Type 0
MakesRoom same r l s x n y (Adopt a b) = (a.0 ≡ x) × (b.0 ≡ y) × CanAdopt same r l s x n y
MakesRoom same r l s x n y (Evict a p) = (a.0 ≡ y) × (p ≡ n.place) × ¬ (CanAdopt same r l s x n y)
MakesRoom same r l s x n y (Split a) = ⊥
MakesRoom same r l s x n y (Revive a) = ⊥
MakesRoom same r l s x n y (Unmove a) = ⊥

-- Local hasn't what is n in Remote, or has it below another parent
abbrev pub IsAstray : Node → Option Node → Type 0
IsAstray n None = Unit {0}
IsAstray n (Some own) = own.place.parent.0 ≢ n.place.parent.0

-- m, which is n in Remote, is q or above it there, is astray in Local, and all that is above m in Remote has the same
-- parent in Local
pub record IsBlocker (r l : Nodes) (q m : ℕ) (n : Node) : Type 0 where
  pub above : IsUnder r q m
  pub there : get r m ≡ Some n
  pub astray : IsAstray n (get l m)
  pub highest : Alike r l n.place.parent.0

-- m, which is n in Remote, comes to Remote's place in Local, once nobody else has it there
abbrev pub Unblocks : Nodes → ℕ → Node → Remedy → Type 0
Unblocks l m n (Evict a p) = IsInTheWay l n.place m a.0 × (p ≡ n.place)
Unblocks l m n (Revive a) = (a.0 ≡ m) × IsFree l m n.place × (get l m ≡ None)
Unblocks l m n (Unmove a) = (a.0 ≡ m) × IsFree l m n.place × IsThere l m
Unblocks l m n (Split a) = ⊥
Unblocks l m n (Adopt a b) = ⊥

-- what is astray above q comes to its place
pub record IsUnblocking (r l : Nodes) (q : ℕ) (remedy : Remedy) : Type 0 where
  pub top : ℕ
  pub node : Node
  pub blocker : IsBlocker r l q top node
  pub clears : Unblocks l top node remedy

-- what clears the way for x to come down to where it is n in Remote: another has the place in Synced; or nobody has, but
-- another has it in Local; or nobody has, but x is above the place in Local, so something above it in Remote is astray
pub data ClearsDown (same : ℕ → ℕ → Bool) (r l s : Nodes) (x : ℕ) (n : Node) (remedy : Remedy) : Type 0 where
  in_synced : (y : NodeId) → IsInTheWay s n.place x y.0 → remedy ≡ Evict y n.place → ClearsDown same r l s x n remedy
  in_local : (y : NodeId) → IsFree s x n.place → IsInTheWay l n.place x y.0 → MakesRoom same r l s x n y.0 remedy
      → ClearsDown same r l s x n remedy
  below : IsFree s x n.place → IsFree l x n.place → IsUnder l n.place.parent.0 x → IsUnblocking r l n.place.parent.0 remedy
      → ClearsDown same r l s x n remedy

-- nothing is in the way of x there
pub record IsClearDown (l s : Nodes) (x : ℕ) (n : Node) : Type 0 where
  pub synced : IsFree s x n.place
  pub local : IsFree l x n.place
  pub apart : ¬ (IsUnder l n.place.parent.0 x)

-- what clears the way for x to go up to where it is n in Local: another has the place in Remote; or nobody has, but another
-- has it in Synced
pub data ClearsUp (r s : Nodes) (x : ℕ) (n : Node) (remedy : Remedy) : Type 0 where
  in_remote : (y : NodeId) → IsInTheWay r n.place x y.0 → remedy ≡ Evict y n.place → ClearsUp r s x n remedy
  in_synced : (y : NodeId) → IsFree r x n.place → IsInTheWay s n.place x y.0 → remedy ≡ Evict y n.place → ClearsUp r s x n remedy

-- nothing is in the way of x there
pub record IsClearUp (r s : Nodes) (x : ℕ) (n : Node) : Type 0 where
  pub remote : IsFree r x n.place
  pub synced : IsFree s x n.place

-- it clears the way for the topmost that wishes Down in Remote
pub record IsDownRemedy (same : ℕ → ℕ → Bool) (r l s : Nodes) (remedy : Remedy) : Type 0 where
  pub x : ℕ
  pub node : Node
  pub topmost : IsTopmost same r l s r wish.Down x
  pub there : get r x ≡ Some node
  pub clears : ClearsDown same r l s x node remedy

-- nothing is in the way of that one, if there is one
abbrev pub IsDownClear : (ℕ → ℕ → Bool) → Nodes → Nodes → Nodes → Type 0
IsDownClear same r l s = (x : ℕ) (n : Node) → IsTopmost same r l s r wish.Down x → get r x ≡ Some n → IsClearDown l s x n

-- it clears the way for the topmost that wishes Up in Local
pub record IsUpRemedy (same : ℕ → ℕ → Bool) (r l s : Nodes) (remedy : Remedy) : Type 0 where
  pub x : ℕ
  pub node : Node
  pub topmost : IsTopmost same r l s l wish.Up x
  pub there : get l x ≡ Some node
  pub clears : ClearsUp r s x node remedy

-- nothing is in the way of that one, if there is one
abbrev pub IsUpClear : (ℕ → ℕ → Bool) → Nodes → Nodes → Nodes → Type 0
IsUpClear same r l s = (x : ℕ) (n : Node) → IsTopmost same r l s l wish.Up x → get l x ≡ Some n → IsClearUp r s x n

-- the first of three rules that applies: a split that is needed, what clears the way down, what clears the way up
pub data IsRemedy (same : ℕ → ℕ → Bool) (r l s : Nodes) (remedy : Remedy) : Type 0 where
  split : (x : NodeId) → IsLeastSplit same r l s x.0 → remedy ≡ Split x → IsRemedy same r l s remedy
  down : NoSplit same r l s → IsDownRemedy same r l s remedy → IsRemedy same r l s remedy
  up : NoSplit same r l s → IsDownClear same r l s → IsUpRemedy same r l s remedy → IsRemedy same r l s remedy

-- none of the rules applies
pub record NoRemedy (same : ℕ → ℕ → Bool) (r l s : Nodes) : Type 0 where
  pub split : NoSplit same r l s
  pub down : IsDownClear same r l s
  pub up : IsUpClear same r l s
