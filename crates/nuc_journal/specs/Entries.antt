-- What a list of entries leads to: a tree, and for each identity its current revision and its kind.
use Rattle.std.specs.Prelude.{◌==◌, ℕ, cond, List, [], ◌∷◌, Option, None, Some}
use Rattle.std.specs.FinMap as tree
use Rattle.nuc_base.specs.Trees.{Nodes}
use Rattle.nuc_base.specs.declared.node.Kind.{Kind}
use Rattle.nuc_base.specs.declared.node.Node.{Node}
use Rattle.nuc_journal.specs.declared.entry.Entry.{Entry}

-- a tree with an identity's value in place of the one that it had
abbrev pub with_value : Nodes → ℕ → Option Node → Nodes
with_value m x None = tree.remove m x
with_value m x (Some n) = tree.insert m x n

abbrev pub tree_after : Nodes → List Entry → Nodes
tree_after m [] = m
tree_after m (e ∷ es) = tree_after (with_value m e.id.0 e.value) es

-- the tree at the last of these entries
abbrev pub tree_of : List Entry → Nodes
tree_of es = tree_after tree.empty es

-- the revision of a value: 0 where the node went
abbrev pub live_revision : Option Node → ℕ → ℕ
live_revision None rev = 0
live_revision (Some n) rev = rev

abbrev pub revision_after : ℕ → List Entry → ℕ → ℕ
revision_after rev [] x = rev
revision_after rev (e ∷ es) x = revision_after (cond (e.id.0 == x) (live_revision e.value e.rev) rev) es x

-- the current revision of x: that of its last entry where this has a node, else 0
abbrev pub revision_of : List Entry → ℕ → ℕ
revision_of es x = revision_after 0 es x

-- the kind of a value: the one before where the node went
abbrev pub kind_with : Option Node → Option Kind → Option Kind
kind_with None before = before
kind_with (Some n) before = Some n.kind

abbrev pub kind_after : Option Kind → List Entry → ℕ → Option Kind
kind_after before [] x = before
kind_after before (e ∷ es) x = kind_after (cond (e.id.0 == x) (kind_with e.value before) before) es x

-- the kind that x has, or had where its node went; none where it never had a node
abbrev pub kind_of : List Entry → ℕ → Option Kind
kind_of es x = kind_after None es x

-- what the last entry of x says: its node, or none where the node went or x has no entry
abbrev pub value_after : Option Node → List Entry → ℕ → Option Node
value_after before [] x = before
value_after before (e ∷ es) x = value_after (cond (e.id.0 == x) e.value before) es x

abbrev pub value_of : List Entry → ℕ → Option Node
value_of es x = value_after None es x
