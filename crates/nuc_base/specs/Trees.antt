use Rattle.std.specs.Prelude.{◌≡◌, ◌≢◌, ◌⊎◌, ◌<◌, ◌≤◌, ◌==◌, ℕ, suc, Bool, false, List, filter, Option, Some, None}
use Rattle.std.specs.FinMap.{FinMap, get, keys}
use Rattle.std.specs.Ordering.{nat_cmp}
use Rattle.nuc_base.specs.Kinds.{FitsKind}
use Rattle.nuc_base.specs.SamePlace.{SamePlace}
use Rattle.nuc_base.specs.declared.node.Kind.TheVariants.{Folder}
use Rattle.nuc_base.specs.declared.node.Node.{Node}
use Rattle.nuc_base.specs.declared.node.Place.{Place}

-- a tree: which node stands at which identity
abbrev pub Nodes : Type 0
Nodes = FinMap nat_cmp Node

-- a node stands at x
abbrev pub IsThere : Nodes → ℕ → Type 0
IsThere m x = (n : Node) × (get m x ≡ Some n)

-- x is the root or a folder
abbrev pub IsFolder : Nodes → ℕ → Type 0
IsFolder m x = (x ≡ 0) ⊎ ((n : Node) × (get m x ≡ Some n) × (n.kind ≡ Folder))

-- x has the place p
abbrev pub StandsAt : Nodes → ℕ → Place → Type 0
StandsAt m x p = (n : Node) × (get m x ≡ Some n) × SamePlace n.place p

-- nobody has the place p
abbrev pub IsVacant : Nodes → Place → Type 0
IsVacant m p = (x : ℕ) (n : Node) → get m x ≡ Some n → ¬ (SamePlace n.place p)

abbrev pub HasChild : Nodes → ℕ → Type 0
HasChild m x = (y : ℕ) × (n : Node) × (get m y ≡ Some n) × (n.place.parent.0 ≡ x)

abbrev pub NoChild : Nodes → ℕ → Type 0
NoChild m x = (y : ℕ) (n : Node) → get m y ≡ Some n → n.place.parent.0 ≢ x

-- a node is there, and has this parent
abbrev pub has_parent : ℕ → Option Node → Bool
has_parent x None = false
has_parent x (Some n) = n.place.parent.0 == x

-- who has this parent, in rising order
abbrev pub children : Nodes → ℕ → List ℕ
children m x = filter (λ y. has_parent x (get m y)) (keys m)

-- following parents from here on leads to b
pub data Under (m : Nodes) (b : ℕ) : ℕ → Type 0 where
  here : Under m b b
  up : (a : ℕ) (n : Node) → get m a ≡ Some n → Under m b n.place.parent.0 → Under m b a

-- a is b or stands below b
abbrev pub IsUnder : Nodes → ℕ → ℕ → Type 0
IsUnder m a b = Under m b a

-- following parents that many times leads to b
pub data Steps (m : Nodes) (b : ℕ) : ℕ → ℕ → Type 0 where
  done : Steps m b b 0
  step : (a k : ℕ) (n : Node) → get m a ≡ Some n → Steps m b n.place.parent.0 k → Steps m b a (suc k)

-- the root has no node, each parent is the root or a folder, each chain of parents ends at the root, no place is taken
-- twice, and each node fits its kind
pub record WellFormed (m : Nodes) : Type 0 where
  pub no_root : get m 0 ≡ None
  pub parents : (x : ℕ) (n : Node) → get m x ≡ Some n → IsFolder m n.place.parent.0
  pub rooted : (x : ℕ) (n : Node) → get m x ≡ Some n → IsUnder m x 0
  pub places : (x y : ℕ) (n k : Node) → get m x ≡ Some n → get m y ≡ Some k → SamePlace n.place k.place → x ≡ y
  pub fits : (x : ℕ) (n : Node) → get m x ≡ Some n → FitsKind n

-- a is the parent of x, or above that; the root is above all that stand in a tree
abbrev pub Above : Nodes → ℕ → ℕ → Type 0
Above m a x = (n : Node) × (get m x ≡ Some n) × IsUnder m n.place.parent.0 a

-- what stands in both trees has one kind
abbrev pub OneKind : Nodes → Nodes → Type 0
OneKind m k = (x : ℕ) (n h : Node) → get m x ≡ Some n → get k x ≡ Some h → n.kind ≡ h.kind

-- q, and all that is above it in m, has the same parent in k
abbrev pub Alike : Nodes → Nodes → ℕ → Type 0
Alike m k q = (a : ℕ) (n : Node) → IsUnder m q a → get m a ≡ Some n → (h : Node) × (get k a ≡ Some h) × (h.place.parent.0 ≡ n.place.parent.0)

-- x stands less deep than y, or as deep and its number isn't the greater
abbrev pub Precedes : Nodes → ℕ → ℕ → Type 0
Precedes m x y = (d e : ℕ) → Steps m 0 x d → Steps m 0 y e → (d < e) ⊎ ((d ≡ e) × (x ≤ y))

-- another than x has the place p
abbrev pub Held : Nodes → Place → ℕ → Type 0
Held m p x = (y : ℕ) × (n : Node) × (get m y ≡ Some n) × SamePlace n.place p × (y ≢ x)
