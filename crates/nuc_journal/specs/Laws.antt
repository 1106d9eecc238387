-- The laws of journals.
use Rattle.std.specs.Prelude.{◌≡◌, ◌≤◌, ◌<◌, ◌+◌, ◌-◌, ℕ, List, length, take, drop, slice_get, Some, MatchOption}
use Rattle.std.specs.FinMap as tree
use Rattle.nuc_base.specs.Trees.{WellFormed}
use Rattle.nuc_base.specs.declared.node.Node.{Node}
use Rattle.nuc_journal.specs.Entries.{tree_after, tree_of, value_of, revision_of, kind_of}
use Rattle.nuc_journal.specs.Journal.{IsJournal}
use Rattle.nuc_journal.specs.declared.entry.Entry.{Entry}

-- the tree at each revision is well formed
abbrev pub TreesAreFormed : Type 0
TreesAreFormed = (es : List Entry) (rev : ℕ) → IsJournal es → WellFormed (tree_of (take rev es))

-- an entry's revision is its place, counted from 1
abbrev pub RevisionsCount : Type 0
RevisionsCount = (es : List Entry) (k : ℕ) (e : Entry) → IsJournal es → slice_get es k ≡ Some e → e.rev ≡ k + 1

-- all nodes that an identity has had are of one kind
abbrev pub KindsStay : Type 0
KindsStay = (es : List Entry) (i k : ℕ) (e f : Entry) (n h : Node) → IsJournal es → slice_get es i ≡ Some e → slice_get es k ≡ Some f
    → e.id.0 ≡ f.id.0 → e.value ≡ Some n → f.value ≡ Some h → n.kind ≡ h.kind

-- what stands at an identity in the last tree is what its last entry says
abbrev pub LastEntryStands : Type 0
LastEntryStands = (es : List Entry) (x : ℕ) → tree.get (tree_of es) x ≡ value_of es x

-- the entry of revision rev gave x the node n
abbrev pub GaveNode : List Entry → ℕ → ℕ → Node → Type 0
GaveNode es rev x n = (e : Entry) × (0 < rev) × (slice_get es (rev - 1) ≡ Some e) × (e.id.0 ≡ x) × (e.value ≡ Some n)

-- an identity's current revision is that of the entry which gave it the node that it has, and 0 where it has none
abbrev pub CurrentRevisionsGave : Type 0
CurrentRevisionsGave = (es : List Entry) (x : ℕ) → IsJournal es
    → MatchOption (tree.get (tree_of es) x) (revision_of es x ≡ 0) (λ n. GaveNode es (revision_of es x) x n × (kind_of es x ≡ Some n.kind))

-- entries that follow one another, made upon the tree at the revision before them, lead to the tree at the last of them
abbrev pub PagesLead : Type 0
PagesLead = (es : List Entry) (after n : ℕ) → after ≤ length es → let page = take n (drop after es) in
    tree_after (tree_of (take after es)) page ≡ tree_of (take (after + length page) es)
