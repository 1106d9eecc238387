-- The three lists of slots of a tree's entries.
use Rattle.std.specs.Prelude.{◌≡◌, ◌≤◌, ◌-◌, ℕ, List, min}
use Rattle.std.specs.FinMap.{remove}
use Rattle.slab.specs.Slab.{Slab, slab_len}
use Rattle.nuc_base.specs.Legal.{IsFree}
use Rattle.nuc_base.specs.Trees.{Nodes}
use Rattle.nuc_base.specs.declared.node.NodeId.{NodeId}
use Rattle.nuc_index.specs.Entries.{IsRising, nodes_of}
use Rattle.nuc_index.specs.Rows.{Holds, IsIn}
use Rattle.nuc_index.specs.Places.{IsRisingByPlace, HasNode}
use Rattle.nuc_index.specs.Siblings.{IsRisingByParent, IsRow}
use Rattle.nuc_index.specs.Slots.{AreFull, entry_in, entries_in, ids_in, rows_in}
use Rattle.nuc_index.specs.declared.entry.Entry.{Entry}
use Rattle.nuc_index.specs.declared.indexes.Indexes.{Indexes}
use Rattle.nuc_index.specs.declared.sibling.Sibling.{Sibling}

-- both lists have each identity of the tree once, each in its order
pub record IsIndex (m : Nodes) (xs : List NodeId) (rs : List Sibling) : Type 0 where
  pub places_rise : IsRisingByPlace m xs
  pub places : Holds (HasNode m) xs
  pub siblings_rise : IsRisingByParent rs
  pub siblings : Holds (IsRow m) rs

-- each slot has an entry, and the slots of the two lists are among those in order of identity
pub record AreSlots (s : Slab Entry) (i : Indexes) : Type 0 where
  pub full : AreFull s i.ids.items
  pub places : (k : ℕ) → IsIn k i.places.items → IsIn k i.ids.items
  pub siblings : (k : ℕ) → IsIn k i.siblings.items → IsIn k i.ids.items

abbrev pub tree_of : Slab Entry → Indexes → Nodes
tree_of s i = nodes_of (entries_in s i.ids.items)

-- the two lists are those of this tree
abbrev pub IsIndexOf : Nodes → Slab Entry → Indexes → Type 0
IsIndexOf m s i = IsIndex m (ids_in s i.places.items) (rows_in s i.siblings.items)

-- the entries of a tree, and its lists
pub record IsIndexed (s : Slab Entry) (i : Indexes) : Type 0 where
  pub fits : slab_len s ≤ s.capacity
  pub slots : AreSlots s i
  pub rise : IsRising (entries_in s i.ids.items)
  pub lists : IsIndexOf (tree_of s i) s i

-- what is in the slot is the only one of the entries that isn't in the two lists, and its place is its own
pub record CanEnter (s : Slab Entry) (k : ℕ) (i : Indexes) : Type 0 where
  pub slots : AreSlots s i
  pub rise : IsRising (entries_in s i.ids.items)
  pub there : IsIn k i.ids.items
  pub free : IsFree (tree_of s i) (entry_in s k).id.0 (entry_in s k).node.place
  pub lists : IsIndexOf (remove (tree_of s i) (entry_in s k).id.0) s i

-- how many more slots all three lists can take without memory
abbrev pub index_spare : Indexes → ℕ
index_spare i = min i.ids.spare (min i.places.spare i.siblings.spare)

pub record SameLists (i j : Indexes) : Type 0 where
  pub ids : j.ids.items ≡ i.ids.items
  pub places : j.places.items ≡ i.places.items
  pub siblings : j.siblings.items ≡ i.siblings.items

-- how many more nodes a tree can take without memory
abbrev pub room : Slab Entry → Indexes → ℕ
room s i = min (s.capacity - slab_len s) (index_spare i)
