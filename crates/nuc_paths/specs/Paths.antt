-- Where a path leads in a tree.
use Rattle.std.specs.Prelude.{◌≡◌, ◌⊎◌, ℕ, List, [], ◌∷◌, Some}
use Rattle.std.specs.FinMap.{get}
use Rattle.nuc_base.specs.SamePlace.{SamePlace}
use Rattle.nuc_base.specs.Trees.{Nodes, IsFolder, IsVacant, StandsAt}
use Rattle.nuc_base.specs.declared.node.Node.{Node}
use Rattle.nuc_base.specs.declared.node.Place.{Place}

-- the place of this name below x
abbrev pub place_in : ℕ → List ℕ → Place
place_in x name = record { parent = record { 0 = x }; name = name }

-- from x a name and those that follow it lead to a place: the last one's, below a folder
abbrev pub LeadsOn : Nodes → ℕ → List ℕ → List (List ℕ) → Place → Type 0
LeadsOn m x name [] place = IsFolder m x × (place ≡ place_in x name)
LeadsOn m x name (next ∷ names) place = (y : ℕ) × StandsAt m y (place_in x name) × LeadsOn m y next names place

-- from x the names lead to a place
abbrev pub LeadsTo : Nodes → ℕ → List (List ℕ) → Place → Type 0
LeadsTo m x [] place = ⊥
LeadsTo m x (name ∷ names) place = LeadsOn m x name names place

abbrev pub LeadsNowhereOn : Nodes → ℕ → List ℕ → List (List ℕ) → Type 0
LeadsNowhereOn m x name names = (place : Place) → ¬ (LeadsOn m x name names place)

abbrev pub LeadsNowhere : Nodes → ℕ → List (List ℕ) → Type 0
LeadsNowhere m x names = (place : Place) → ¬ (LeadsTo m x names place)

-- by where the names lead from the root: nowhere and the first holds, or to a place of which the second does
abbrev pub ByPath : Nodes → List (List ℕ) → Type 0 → (Place → Type 0) → Type 0
ByPath m names Nowhere To = (LeadsNowhere m 0 names × Nowhere) ⊎ ((place : Place) × LeadsTo m 0 names place × To place)

-- by who stands at a place: nobody and the first holds, or x with its node n, of which the second does
abbrev pub ByHolder : Nodes → Place → Type 0 → (ℕ → Node → Type 0) → Type 0
ByHolder m place Nobody Held = (IsVacant m place × Nobody) ⊎ ((x : ℕ) × (n : Node) × (get m x ≡ Some n) × SamePlace n.place place × Held x n)
