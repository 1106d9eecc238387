-- The list of entries in order of identity.
use Rattle.std.specs.Prelude.{◌≡◌, ℕ, List, map, Some}
use Rattle.std.specs.FinMap.{from_sorted, get}
use Rattle.std.specs.Ordering.{nat_cmp}
use Rattle.std.specs.declared.cmp.Ordering.{Ordering}
use Rattle.nuc_base.specs.Trees.{Nodes}
use Rattle.nuc_base.specs.declared.node.Node.{Node}
use Rattle.nuc_index.specs.Rows.{Rises, IsAt, IsGap}
use Rattle.nuc_index.specs.declared.entry.Entry.{Entry}

abbrev pub pairs : List Entry → List (ℕ × Node)
pairs es = map (λ e. (e.id.0, e.node)) es

abbrev pub nodes_of : List Entry → Nodes
nodes_of es = from_sorted (pairs es)

abbrev pub entry_order : Entry → Entry → Ordering
entry_order e f = nat_cmp e.id.0 f.id.0

abbrev pub IsRising : List Entry → Type 0
IsRising es = Rises entry_order es

abbrev pub IsEntryAt : ℕ → List Entry → ℕ → Type 0
IsEntryAt x es i = IsAt (λ e. nat_cmp e.id.0 x) es i

abbrev pub IsEntryGap : ℕ → List Entry → ℕ → Type 0
IsEntryGap x es i = IsGap (λ e. nat_cmp e.id.0 x) es i

-- the entry is one of the tree's
abbrev pub IsEntry : Nodes → Entry → Type 0
IsEntry m e = get m e.id.0 ≡ Some e.node
