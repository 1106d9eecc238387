-- The entries stand in slots, and each list has slots.
use Rattle.std.specs.Prelude.{ℕ, false, List, [], map, Option, Some, None}
use Rattle.slab.specs.Slab.{Slab, get, ContainsKey}
use Rattle.std.specs.Ordering.{nat_cmp}
use Rattle.std.specs.declared.cmp.Ordering.{Ordering}
use Rattle.nuc_base.specs.declared.node.Kind.TheVariants.{Folder}
use Rattle.nuc_base.specs.declared.node.NodeId.{NodeId}
use Rattle.nuc_base.specs.declared.node.Place.{Place}
use Rattle.nuc_index.specs.Places.{place_order}
use Rattle.nuc_index.specs.Rows.{IsIn}
use Rattle.nuc_index.specs.Siblings.{sibling_order}
use Rattle.nuc_index.specs.declared.entry.Entry.{Entry}
use Rattle.nuc_index.specs.declared.sibling.Sibling.{Sibling}
use Rattle.nuc_index.specs.declared.sought.Sought.{Sought}
use Rattle.nuc_index.specs.declared.sought.Sought.TheVariants.{Id, At, Row}

-- what an empty slot counts as
abbrev pub nothing : Entry
nothing = record {
  id = record { 0 = 0 };
  node = record { place = record { parent = record { 0 = 0 }; name = [] }; kind = Folder; ver = record { 0 = 0 }; bit = false };
}

abbrev pub filled : Option Entry → Entry
filled None = nothing
filled (Some e) = e

abbrev pub entry_in : Slab Entry → ℕ → Entry
entry_in s k = filled (get s k)

abbrev pub row_of_entry : Entry → Sibling
row_of_entry e = record { parent = e.node.place.parent; id = e.id }

-- what the slots of a list have

abbrev pub entries_in : Slab Entry → List ℕ → List Entry
entries_in s ks = map (λ k. entry_in s k) ks

abbrev pub ids_in : Slab Entry → List ℕ → List NodeId
ids_in s ks = map (λ k. (entry_in s k).id) ks

abbrev pub rows_in : Slab Entry → List ℕ → List Sibling
rows_in s ks = map (λ k. row_of_entry (entry_in s k)) ks

-- none of these slots is empty
abbrev pub AreFull : Slab Entry → List ℕ → Type 0
AreFull s ks = (k : ℕ) → IsIn k ks → ContainsKey s k

-- how an entry compares with what is sought
abbrev pub compare : Sought → Entry → Ordering
compare (Id x) e = nat_cmp e.id.0 x.0
compare (At parent name) e = let p : Place = record { parent = parent; name = name.now } in place_order e.node.place p
compare (Row r) e = sibling_order (row_of_entry e) r

-- how what is in a slot does
abbrev pub compare_slot : Slab Entry → Sought → ℕ → Ordering
compare_slot s q k = compare q (entry_in s k)
