-- How a folder answers a call, by what it held before and holds after it. Where several answers could be given, the
-- first of Changed, Taken and NotEmpty is; each has those before it as not the case. `Failed` and `Memory` may come
-- whatever it holds.
use Rattle.std.specs.Prelude.{◌≡◌, ◌<◌, ◌≤◌, ℕ, Bool, List, All, length, Option, None, Some}
use Rattle.std.specs.FinMap.{get}
use Rattle.nuc_base.specs.Legal.{IsFree}
use Rattle.nuc_base.specs.Trees.{Nodes, IsFolder, IsUnder, IsVacant, StandsAt, Held, HasChild, NoChild}
use Rattle.nuc_base.specs.declared.node.Kind.TheVariants.{File}
use Rattle.nuc_base.specs.declared.node.Node.{Node}
use Rattle.nuc_base.specs.declared.node.Place.{Place}
use Rattle.nuc_hash.specs.Content.{content_of}
use Rattle.nuc_hash.specs.declared.digest.Digest.{Digest}
use Rattle.nuc_folder.specs.Listing.{IsListing}
use Rattle.nuc_shelf.specs.Shelf.{marked, moved, refilled, with_file, with_folder, without}
use Rattle.nuc_folder.specs.State.{FolderState, place_of}
use Rattle.nuc_folder.specs.declared.item.Item.{Item}
use Rattle.nuc_folder.specs.declared.listed.Listed.{Listed}
use Rattle.nuc_folder.specs.declared.listed.Listed.TheVariants as listed
use Rattle.nuc_folder.specs.declared.listed.TheConstants.{MOST_ITEMS}
use Rattle.nuc_folder.specs.declared.outcome.Outcome.{Outcome}
use Rattle.nuc_folder.specs.declared.outcome.Outcome.TheVariants as outcome
use Rattle.nuc_folder.specs.declared.read_back.ReadBack.{ReadBack}
use Rattle.nuc_folder.specs.declared.read_back.ReadBack.TheVariants as read
use Rattle.nuc_folder.specs.declared.seen.Seen.{Seen}

-- WHAT IS TOLD
-- the relation holds between what is told before and after; who tells what it holds tells it after each call, and who
-- doesn't never does
abbrev pub Told : (FolderState → FolderState → Type 0) → Option FolderState → Option FolderState → Type 0
Told R None None = Unit {0}
Told R None (Some new) = ⊥
Told R (Some old) None = ⊥
Told R (Some old) (Some new) = R old new

-- CALLS THAT MAKE
-- Made is the one success, and its key is one that was never used; n is above all keys that were
abbrev pub Makes : Outcome → ℕ → ℕ → Type 0
Makes (outcome.Made key) n after = (0 < key.0) × (n ≤ key.0) × (key.0 < after)
Makes outcome.Ok n after = ⊥
Makes outcome.NotEmpty n after = ⊥
Makes outcome.Changed n after = n ≤ after
Makes outcome.Taken n after = n ≤ after
Makes outcome.Failed n after = n ≤ after
Makes outcome.Memory n after = n ≤ after

-- somebody has the place p
abbrev pub IsTaken : Nodes → Place → Type 0
IsTaken m p = (x : ℕ) × StandsAt m x p

-- something is made at a place: `made` is what the folder holds then
abbrev pub MakeAnswers : Place → (ℕ → FolderState → FolderState) → FolderState → Outcome → FolderState → Type 0
MakeAnswers p made old (outcome.Made key) new = IsFolder old.tree p.parent.0 × IsVacant old.tree p × (new ≡ made key.0 old)
MakeAnswers p made old outcome.Changed new = ¬ (IsFolder old.tree p.parent.0) × (new ≡ old)
MakeAnswers p made old outcome.Taken new = IsFolder old.tree p.parent.0 × IsTaken old.tree p × (new ≡ old)
MakeAnswers p made old outcome.Failed new = new ≡ old
MakeAnswers p made old outcome.Memory new = new ≡ old
MakeAnswers p made old outcome.Ok new = ⊥
MakeAnswers p made old outcome.NotEmpty new = ⊥

abbrev pub MakeDirAnswers : Place → FolderState → Outcome → FolderState → Type 0
MakeDirAnswers p old answer new = MakeAnswers p (λ x s. with_folder s x p) old answer new

abbrev pub WriteNewAnswers : Place → List ℕ → Bool → FolderState → Outcome → FolderState → Type 0
WriteNewAnswers p bytes bit old answer new = MakeAnswers p (λ x s. with_file s x p bit bytes) old answer new

-- a new thing got this key, or none was made; the folder itself didn't fail
abbrev pub MadeAs : Outcome → ℕ → Type 0
MadeAs (outcome.Made key) x = key.0 ≡ x
MadeAs outcome.Ok x = ⊥
MadeAs outcome.NotEmpty x = ⊥
MadeAs outcome.Changed x = Unit {0}
MadeAs outcome.Taken x = Unit {0}
MadeAs outcome.Failed x = ⊥
MadeAs outcome.Memory x = Unit {0}

-- the first reason why x can't stand at the place p, where that is not below x
abbrev pub Refuses : Nodes → ℕ → Place → Outcome → Type 0
Refuses m x p outcome.Changed = ¬ (IsFolder m p.parent.0)
Refuses m x p outcome.Taken = IsFolder m p.parent.0 × Held m p x
Refuses m x p (outcome.Made key) = ⊥
Refuses m x p outcome.Ok = ⊥
Refuses m x p outcome.NotEmpty = ⊥
Refuses m x p outcome.Failed = ⊥
Refuses m x p outcome.Memory = ⊥

-- CALLS THAT CHANGE
-- Ok is the one success
abbrev pub Changes : Outcome → ℕ → ℕ → Type 0
Changes (outcome.Made key) n after = ⊥
Changes outcome.Ok n after = n ≤ after
Changes outcome.NotEmpty n after = n ≤ after
Changes outcome.Changed n after = n ≤ after
Changes outcome.Taken n after = n ≤ after
Changes outcome.Failed n after = n ≤ after
Changes outcome.Memory n after = n ≤ after

-- nothing was made, and the folder itself didn't fail
abbrev pub Alters : Outcome → Type 0
Alters (outcome.Made key) = ⊥
Alters outcome.Ok = Unit {0}
Alters outcome.NotEmpty = Unit {0}
Alters outcome.Changed = Unit {0}
Alters outcome.Taken = Unit {0}
Alters outcome.Failed = ⊥
Alters outcome.Memory = Unit {0}

-- a file is altered where it is as expected: the folder holds `after` then
abbrev pub AlterAnswers : Type 0 → FolderState → FolderState → Outcome → FolderState → Type 0
AlterAnswers Expected after old outcome.Ok new = Expected × (new ≡ after)
AlterAnswers Expected after old outcome.Changed new = ¬ Expected × (new ≡ old)
AlterAnswers Expected after old outcome.Failed new = new ≡ old
AlterAnswers Expected after old outcome.Memory new = new ≡ old
AlterAnswers Expected after old (outcome.Made key) new = ⊥
AlterAnswers Expected after old outcome.Taken new = ⊥
AlterAnswers Expected after old outcome.NotEmpty new = ⊥

-- a file is there whose bytes have this hash
abbrev pub HasHash : Option (List ℕ) → Digest → Type 0
HasHash None hash = ⊥
HasHash (Some bytes) hash = (content_of bytes).hash ≡ hash

abbrev pub ReplaceAnswers : ℕ → Digest → List ℕ → FolderState → Outcome → FolderState → Type 0
ReplaceAnswers x expected bytes old answer new = AlterAnswers (HasHash (get old.bytes x) expected) (refilled old x bytes) old answer new

-- a file is there with this bit
abbrev pub HasBit : Option Node → Bool → Type 0
HasBit None bit = ⊥
HasBit (Some n) bit = (n.kind ≡ File) × (n.bit ≡ bit)

abbrev pub SetBitAnswers : ℕ → Bool → Bool → FolderState → Outcome → FolderState → Type 0
SetBitAnswers x expected bit old answer new = AlterAnswers (HasBit (get old.tree x) expected) (marked old x bit) old answer new

-- a node is there, at this place by its bytes
abbrev pub IsPlaced : Option Node → Place → Type 0
IsPlaced None p = ⊥
IsPlaced (Some n) p = n.place ≡ p

-- x is at the expected place, and the new parent is a folder that neither is x nor stands below it
abbrev pub CanMove : ℕ → Place → Place → FolderState → Type 0
CanMove x expected p s = IsPlaced (get s.tree x) expected × IsFolder s.tree p.parent.0 × ¬ (IsUnder s.tree p.parent.0 x)

abbrev pub MoveAnswers : ℕ → Place → Place → FolderState → Outcome → FolderState → Type 0
MoveAnswers x expected p old outcome.Ok new = CanMove x expected p old × IsFree old.tree x p × (new ≡ moved old x p)
MoveAnswers x expected p old outcome.Changed new = ¬ (CanMove x expected p old) × (new ≡ old)
MoveAnswers x expected p old outcome.Taken new = CanMove x expected p old × Held old.tree p x × (new ≡ old)
MoveAnswers x expected p old outcome.Failed new = new ≡ old
MoveAnswers x expected p old outcome.Memory new = new ≡ old
MoveAnswers x expected p old (outcome.Made key) new = ⊥
MoveAnswers x expected p old outcome.NotEmpty new = ⊥

-- a file has this hash, a folder none
abbrev pub HasSeenHash : Option (List ℕ) → Option Digest → Type 0
HasSeenHash None None = Unit {0}
HasSeenHash None (Some hash) = ⊥
HasSeenHash (Some bytes) None = ⊥
HasSeenHash (Some bytes) (Some hash) = (content_of bytes).hash ≡ hash

-- x is as it was seen
abbrev pub IsSeen : ℕ → Seen → FolderState → Type 0
IsSeen x seen s = IsPlaced (get s.tree x) (place_of seen.place) × HasSeenHash (get s.bytes x) seen.hash

abbrev pub RemoveAnswers : ℕ → Seen → FolderState → Outcome → FolderState → Type 0
RemoveAnswers x seen old outcome.Ok new = IsSeen x seen old × NoChild old.tree x × (new ≡ without old x)
RemoveAnswers x seen old outcome.Changed new = ¬ (IsSeen x seen old) × (new ≡ old)
RemoveAnswers x seen old outcome.NotEmpty new = IsSeen x seen old × HasChild old.tree x × (new ≡ old)
RemoveAnswers x seen old outcome.Failed new = new ≡ old
RemoveAnswers x seen old outcome.Memory new = new ≡ old
RemoveAnswers x seen old (outcome.Made key) new = ⊥
RemoveAnswers x seen old outcome.Taken new = ⊥

-- CALLS THAT ASK
abbrev pub ListAnswers : FolderState → Listed → FolderState → Type 0
ListAnswers old (listed.Items items) new = IsListing old items × (length items ≤ MOST_ITEMS) × (new ≡ old)
ListAnswers old (listed.TooLong n) new = (items : List Item) × IsListing old items × (n ≡ length items) × (MOST_ITEMS < n) × (new ≡ old)
ListAnswers old listed.Failed new = new ≡ old
ListAnswers old listed.Memory new = new ≡ old

-- the keys of a listing are below n
abbrev pub ListsBelow : Listed → ℕ → Type 0
ListsBelow (listed.Items items) n = All (λ item. item.key.0 < n) items
ListsBelow (listed.TooLong k) n = Unit {0}
ListsBelow listed.Failed n = Unit {0}
ListsBelow listed.Memory n = Unit {0}

abbrev pub ReadAnswers : ℕ → FolderState → ReadBack → FolderState → Type 0
ReadAnswers x old (read.Bytes bytes) new = (get old.bytes x ≡ Some bytes) × (new ≡ old)
ReadAnswers x old read.Changed new = (get old.bytes x ≡ None) × (new ≡ old)
ReadAnswers x old read.Failed new = new ≡ old
ReadAnswers x old read.Memory new = new ≡ old
