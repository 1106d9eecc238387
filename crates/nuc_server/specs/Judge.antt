-- How a commit is judged.
use Rattle.std.specs.Prelude.{◌≡◌, ◌≢◌, ◌+◌, ◌<◌, ℕ, List, [], ◌∷◌, ◌++◌, length, Option, None, Some, IfSome}
use Rattle.nuc_base.specs.Faults.{PutFaulty, CutFaulty}
use Rattle.nuc_base.specs.Kinds.{FitsKind}
use Rattle.nuc_base.specs.Legal.{SameKind}
use Rattle.nuc_base.specs.Trees.{Nodes, IsThere}
use Rattle.nuc_base.specs.declared.node.Kind.{Kind}
use Rattle.nuc_base.specs.declared.node.Node.{Node}
use Rattle.nuc_base.specs.declared.tree_fault.CutFault.TheVariants as cut
use Rattle.nuc_base.specs.declared.tree_fault.PutFault.TheVariants as put
use Rattle.nuc_blocks.specs.Blocks.{Blocks, first_missing}
use Rattle.nuc_hash.specs.Content.{ContentData}
use Rattle.nuc_hash.specs.declared.digest.Digest.{Digest}
use Rattle.nuc_journal.specs.Entries.{revision_of, tree_of}
use Rattle.nuc_journal.specs.Journal.{HasOldKind, IsLegalValue}
use Rattle.nuc_journal.specs.declared.entry.Entry.{Entry}
use Rattle.nuc_server.specs.declared.commit.Commit.{Commit}
use Rattle.nuc_server.specs.declared.commit.CommitReply.{CommitReply}
use Rattle.nuc_server.specs.declared.commit.CommitReply.TheVariants as reply
use Rattle.nuc_server.specs.declared.commit.Refusal.{Refusal}
use Rattle.nuc_server.specs.declared.commit.Refusal.TheVariants as refusal

-- a node fits its kind
abbrev pub FitsValue : Option Node → Type 0
FitsValue None = Unit {0}
FitsValue (Some n) = FitsKind n

-- what whoever commits must see to: the root is no node, a node fits its kind, and what is deleted was there
abbrev pub IsLiveBase : Option Node → ℕ → Type 0
IsLiveBase None base = 0 < base
IsLiveBase (Some n) base = Unit {0}

pub record IsCommit (c : Commit) : Type 0 where
  pub id : 0 < c.id.0
  pub fits : FitsValue c.value
  pub live : IsLiveBase c.value c.base

-- a node is of the kind that its identity has or had
abbrev pub HasKindOf : Option Kind → Option Node → Type 0
HasKindOf had None = Unit {0}
HasKindOf had (Some n) = IfSome had (λ k. k ≡ n.kind)

-- the tree has what is to be deleted, and else no node of another kind
abbrev pub IsThereToGo : Nodes → ℕ → Option Node → Type 0
IsThereToGo m x None = IsThere m x
IsThereToGo m x (Some n) = SameKind m x n.kind

-- the digests of the blocks that must be kept already
abbrev pub blocks_with : Option ContentData → List Digest
blocks_with None = []
blocks_with (Some content) = content.blocks

-- the first reason why the tree doesn't allow the value
abbrev pub IsUnlawful : Nodes → ℕ → Option Node → Refusal → Type 0
IsUnlawful m x (Some n) refusal.NoParent = PutFaulty m x n put.NoParent
IsUnlawful m x (Some n) (refusal.Taken y) = PutFaulty m x n (put.Taken y)
IsUnlawful m x (Some n) refusal.Cycle = PutFaulty m x n put.Cycle
IsUnlawful m x None refusal.NotEmpty = CutFaulty m x cut.NotEmpty
IsUnlawful m x value reason = ⊥

-- the first reason why the commit isn't accepted: each has those before it as not the case
abbrev pub IsRefused : List Entry → Blocks → Commit → List Digest → Refusal → Type 0
IsRefused es blocks c digests (refusal.Stale current) = (c.base ≢ current) × (current ≡ revision_of es c.id.0)
IsRefused es blocks c digests refusal.KindChanged = (c.base ≡ revision_of es c.id.0) × ¬ (HasOldKind es c.id.0 c.value)
IsRefused es blocks c digests (refusal.NoBlock digest) = (c.base ≡ revision_of es c.id.0) × HasOldKind es c.id.0 c.value
    × IsLegalValue (tree_of es) c.id.0 c.value × (first_missing blocks digests ≡ Some digest)
IsRefused es blocks c digests reason = (c.base ≡ revision_of es c.id.0) × HasOldKind es c.id.0 c.value
    × IsUnlawful (tree_of es) c.id.0 c.value reason

-- no reason holds
pub record IsAccepted (es : List Entry) (blocks : Blocks) (c : Commit) (digests : List Digest) : Type 0 where
  pub fresh : c.base ≡ revision_of es c.id.0
  pub kind : HasOldKind es c.id.0 c.value
  pub legal : IsLegalValue (tree_of es) c.id.0 c.value
  pub kept : first_missing blocks digests ≡ None

-- the entry that a value becomes
abbrev pub next_entry : List Entry → ℕ → Option Node → ℕ → Entry
next_entry es x value by = record { rev = length es + 1; id = record { 0 = x }; value = value; by = by }

-- by the answer: what holds of the commit, and the journal after it
abbrev pub Judges : List Entry → Blocks → Commit → List Digest → ℕ → CommitReply → List Entry → Type 0
Judges es blocks c digests by (reply.Accepted rev) now = IsAccepted es blocks c digests × (rev ≡ length es + 1)
    × (now ≡ es ++ next_entry es c.id.0 c.value by ∷ [])
Judges es blocks c digests by (reply.Refused reason) now = IsRefused es blocks c digests reason × (now ≡ es)
Judges es blocks c digests by reply.Memory now = now ≡ es
