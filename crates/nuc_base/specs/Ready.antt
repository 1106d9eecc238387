-- Changes of one tree that can be made in any order.
use Rattle.std.specs.Prelude.{◌≢◌, ◌<◌, ℕ, List, [], ◌∷◌, Contains, AllPairs}
use Rattle.nuc_base.specs.Changes.{changed, IsLegal, FitsChange, Apart}
use Rattle.nuc_base.specs.Trees.{Nodes}
use Rattle.nuc_base.specs.declared.change.Change.{Change}

-- each change of a set is legal and fits, and those of two identities are apart; C x c says that x has the change c
pub record AllReady (m : Nodes) (C : ℕ → Change → Type 0) : Type 0 where
  pub below : (x : ℕ) (c : Change) → C x c → 0 < x
  pub fits : (x : ℕ) (c : Change) → C x c → FitsChange c
  pub legal : (x : ℕ) (c : Change) → C x c → IsLegal m x c
  pub apart : (x y : ℕ) (c d : Change) → C x c → C y d → x ≢ y → Apart m x c y d

-- the changes of all but x
abbrev pub Without : (ℕ → Change → Type 0) → ℕ → ℕ → Change → Type 0
Without C x y d = C y d × (y ≢ x)

-- the changes of a list
abbrev pub OneOf : List (ℕ × Change) → ℕ → Change → Type 0
OneOf cs x c = Contains cs (x, c)

-- no identity has two changes
abbrev pub NoneTwice : List (ℕ × Change) → Type 0
NoneTwice cs = AllPairs (λ p q. p.0 ≢ q.0) cs

-- the tree after the changes of a list, one after another
abbrev pub all_changed : Nodes → List (ℕ × Change) → Nodes
all_changed m [] = m
all_changed m (p ∷ cs) = all_changed (changed m p.0 p.1) cs

-- each change of a list is legal in its turn
abbrev pub LegalInTurn : Nodes → List (ℕ × Change) → Type 0
LegalInTurn m [] = Unit {0}
LegalInTurn m (p ∷ cs) = IsLegal m p.0 p.1 × LegalInTurn (changed m p.0 p.1) cs
