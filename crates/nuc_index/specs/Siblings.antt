-- The list of identities in order of parent and identity.
use Rattle.std.specs.Prelude.{◌≡◌, ◌==◌, ℕ, cond, List, map, filter, Option, Some, None}
use Rattle.std.specs.FinMap.{get}
use Rattle.std.specs.Ordering.{nat_cmp, ordering_then}
use Rattle.std.specs.declared.cmp.Ordering.{Ordering}
use Rattle.nuc_base.specs.Trees.{Nodes}
use Rattle.nuc_base.specs.declared.node.Node.{Node}
use Rattle.nuc_index.specs.Rows.{Rises, IsAt, IsGap}
use Rattle.nuc_index.specs.declared.sibling.Sibling.{Sibling}

abbrev pub sibling_order : Sibling → Sibling → Ordering
sibling_order r s = ordering_then (nat_cmp r.parent.0 s.parent.0) (nat_cmp r.id.0 s.id.0)

abbrev pub IsRisingByParent : List Sibling → Type 0
IsRisingByParent rs = Rises sibling_order rs

abbrev pub IsRowAt : Sibling → List Sibling → ℕ → Type 0
IsRowAt r rs i = IsAt (λ s. sibling_order s r) rs i

abbrev pub IsRowGap : Sibling → List Sibling → ℕ → Type 0
IsRowGap r rs i = IsGap (λ s. sibling_order s r) rs i

-- the identities of those with this parent, in the list's order
abbrev pub child_rows : ℕ → List Sibling → List ℕ
child_rows x rs = map (λ r. r.id.0) (filter (λ r. r.parent.0 == x) rs)

-- the identity of a row, if it has this parent
abbrev pub id_below : ℕ → Option Sibling → Option ℕ
id_below x None = None
id_below x (Some r) = cond (r.parent.0 == x) (Some r.id.0) None

-- the identity has a node, and that has this parent
abbrev pub IsRow : Nodes → Sibling → Type 0
IsRow m r = (n : Node) × (get m r.id.0 ≡ Some n) × (n.place.parent.0 ≡ r.parent.0)
