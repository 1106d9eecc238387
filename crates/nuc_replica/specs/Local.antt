-- The folder as a client last observed it, and which key of the folder each identity has.
use Rattle.std.specs.Prelude.{◌≡◌, ◌+◌, ◌≤◌, ℕ, [], length, min, Option, None, Some, refl}
use Rattle.std.specs.Coded.{Coded, code_by, coded×, coded_ℕ}
use Rattle.std.specs.FinMap.{get, insert, remove}
use Rattle.nuc_base.specs.Codes.{nodes_code}
use Rattle.nuc_base.specs.Trees.{Nodes, WellFormed}
use Rattle.nuc_base.specs.declared.node.Node.{Node}
use Rattle.nuc_lookup.specs.Lookup.{numbers_code}
use Rattle.nuc_observe.specs.Keys.{AreKeys, KeyMap}
use Rattle.nuc_lookup.specs.State.{UndoLookupState}
use Rattle.nuc_lookup.specs.State as keys
use Rattle.nuc_undo.specs.Laid.{Laid, with_node}
use Rattle.nuc_undo.specs.State.{UndoState}
use Rattle.nuc_undo.specs.State as undo

pub record LocalState : Type 0 where
  pub tree : Nodes
  pub keys : KeyMap

-- what there is now, what taking back all changes since the last settling leads to; what is laid by and how many changes
-- need no memory, each now and once all is taken back
pub record LocalStates : Type 0 where
  pub now : LocalState
  pub settled : LocalState
  pub laid : Laid
  pub laid_then : Laid
  pub spare : ℕ
  pub spare_then : ℕ

abbrev pub local_code : Coded LocalState
local_code = code_by (Nodes × KeyMap) (coded× nodes_code numbers_code) (λ s. (s.tree, s.keys)) (λ t. record { tree = t.0; keys = t.1 }) (λ _. refl)

abbrev pub locals_code : Coded LocalStates
locals_code = code_by (LocalState × (LocalState × (Laid × (Laid × (ℕ × ℕ)))))
    (coded× local_code (coded× local_code (coded× nodes_code (coded× nodes_code (coded× coded_ℕ coded_ℕ)))))
    (λ s. (s.now, (s.settled, (s.laid, (s.laid_then, (s.spare, s.spare_then))))))
    (λ t. record { now = t.0; settled = t.1.0; laid = t.1.1.0; laid_then = t.1.1.1.0; spare = t.1.1.1.1.0; spare_then = t.1.1.1.1.1 })
    (λ _. refl)

-- what there was at the last settling, where all was replaced since, and how many changes of that need no memory
pub record EarlierState : Type 0 where
  pub now : LocalState
  pub spare : ℕ

abbrev pub earlier_code : Coded EarlierState
earlier_code = code_by (LocalState × ℕ) (coded× local_code coded_ℕ) (λ e. (e.now, e.spare)) (λ t. record { now = t.0; spare = t.1 }) (λ _. refl)

abbrev pub earlier_of : UndoState → UndoLookupState → EarlierState
earlier_of tree ks = record {
  now = record { tree = tree.now; keys = ks.now };
  spare = min tree.spare ks.spare;
}

-- what taking back leads to: what was replaced, if anything was
abbrev pub settled_by : Option EarlierState → LocalState → LocalState
settled_by None settled = settled
settled_by (Some e) settled = e.now

abbrev pub spare_by : Option EarlierState → ℕ → ℕ
spare_by None spare = spare
spare_by (Some e) spare = e.spare

abbrev pub locals_of : UndoState → UndoLookupState → Option EarlierState → LocalStates
locals_of tree ks before = record {
  now = record { tree = tree.now; keys = ks.now };
  settled = settled_by before (record { tree = undo.settled_of tree; keys = keys.settled_of ks });
  laid = tree.laid;
  laid_then = tree.laid_then;
  spare = min tree.spare ks.spare;
  spare_then = spare_by before (min (tree.spare + length tree.past) (ks.spare + length ks.past));
}

-- what is there has a key, and nothing else has one
abbrev pub HasKey : Option Node → Option ℕ → Type 0
HasKey None None = Unit {0}
HasKey None (Some k) = ⊥
HasKey (Some n) None = ⊥
HasKey (Some n) (Some k) = Unit {0}

abbrev pub HaveKeys : Nodes → KeyMap → Type 0
HaveKeys m ks = (x : ℕ) → HasKey (get m x) (get ks x)

-- what is always so: the tree is well formed, and just its identities have a key, no two the same
pub record IsLocal (s : LocalState) : Type 0 where
  pub form : WellFormed s.tree
  pub keys : AreKeys s.keys
  pub follow : HaveKeys s.tree s.keys

-- a tree and keys that are settled
pub record IsEarlier (u : UndoState) (ks : UndoLookupState) : Type 0 where
  pub sound : IsLocal (record { tree = u.now; keys = ks.now })
  pub tree : u.past ≡ []
  pub keys : ks.past ≡ []

pub record AreLocal (s : LocalStates) : Type 0 where
  pub now : IsLocal s.now
  pub settled : IsLocal s.settled

-- the same of now and of then, with no less room
pub record KeepsLocal (s t : LocalStates) : Type 0 where
  pub now : t.now ≡ s.now
  pub settled : t.settled ≡ s.settled
  pub spare : s.spare ≤ t.spare
  pub spare_then : s.spare_then ≤ t.spare_then

-- what a change of one or two identities leaves: what it leads back to, and all but so much of the room
pub record ChangedLocal (s : LocalStates) (cost : ℕ) (t : LocalStates) : Type 0 where
  pub settled : t.settled ≡ s.settled
  pub laid_then : t.laid_then ≡ s.laid_then
  pub spare : s.spare ≤ t.spare + cost
  pub spare_then : s.spare_then ≤ t.spare_then

-- the keys were changed once: they lead back to what they did, with at most one of the room taken
pub record ChangedKeys (s t : UndoLookupState) : Type 0 where
  pub settled : keys.settled_of t ≡ keys.settled_of s
  pub past : length t.past ≡ length s.past + 1
  pub spare : s.spare ≤ t.spare + 1

-- the key of x, if it has one, goes to z
abbrev pub moved_key : KeyMap → ℕ → ℕ → Option ℕ → KeyMap
moved_key ks x z None = remove ks x
moved_key ks x z (Some k) = insert (remove ks x) z k

-- x goes, and its key goes to z, which has this node
abbrev pub handed_over : LocalState → ℕ → ℕ → Option Node → LocalState
handed_over s x z node = record { tree = remove (with_node s.tree z node) x; keys = moved_key s.keys x z (get s.keys x) }
