-- What is always so of a world, so that no version is lost: a version that was replaced is gone by, which is that an edit is
-- based on it or that it was adopted.
use Rattle.std.specs.Prelude.{All, Any, length, take}
use Rattle.std.proofs.Common.{◌≡◌, ◌⊎◌, ◌<◌, ◌≤◌, ◌++◌, ℕ, Bool, true, false, List, [], ◌∷◌, Option, Some, None, refl, sym, subst}
use Rattle.std.specs.FinMap.{empty, get}
use Rattle.nuc_base.specs.Changes.{changed, node_after}
use Rattle.nuc_base.specs.Trees.{Nodes}
use Rattle.nuc_base.specs.declared.change.Change.{Change}
use Rattle.nuc_base.specs.declared.change.Change.TheVariants.{Keep, Put, Cut}
use Rattle.nuc_base.specs.declared.node.Node.{Node}
use Rattle.nuc_base.proofs.Maps.{get_cut_other, get_cut_same, get_put_other, get_put_same}
use Rattle.nuc_class.specs.declared.op.Effect.{Effect}
use Rattle.nuc_class.specs.declared.op.Effect.TheVariants as effect
use Rattle.nuc_class.specs.declared.op.Op.{Op}
use Rattle.nuc_edits.specs.Edits.{Recorded, same_hash}
use Rattle.nuc_edits.specs.declared.edit.Adoption.{Adoption}
use Rattle.nuc_edits.specs.declared.edit.Edit.{Edit}
use Rattle.nuc_edits.specs.declared.edit.EditKind.{EditKind}
use Rattle.nuc_edits.specs.declared.edit.EditKind.TheVariants as edit
use Rattle.nuc_flights.specs.Flights.{Flight, Stage, planned, started, taken}
use Rattle.nuc_flights.specs.declared.taken.Taken.{Taken}
use Rattle.nuc_flights.specs.declared.taken.Taken.TheVariants as came
use Rattle.nuc_folder.specs.Outcome.{is_success}
use Rattle.nuc_journal.specs.Entries.{revision_of, tree_of, with_value}
use Rattle.nuc_journal.specs.declared.entry.Entry.{Entry}
use Rattle.nuc_server.specs.Versions.{HasVersion}
use Rattle.nuc_server.specs.WebEdits.{WebState}
use Rattle.nuc_step.specs.Client.{ClientState}
use Rattle.nuc_step.specs.Steps.{adopted_by, is_split}
use Rattle.nuc_world.specs.Accounted.{IsAdopted, IsBased}
use Rattle.nuc_world.specs.State.{Turn}
use Rattle.nuc_world.specs.Takes.{committed}

-- VERSIONS
abbrev pub GoneBy : Recorded → ℕ → Type 0
GoneBy r v = IsBased r v ⊎ IsAdopted r v

-- a value of this version
abbrev pub IsVersion : ℕ → Option Node → Type 0
IsVersion v None = ⊥
IsVersion v (Some n) = n.ver.0 ≡ v

-- x has it in the tree
abbrev pub Has : Nodes → ℕ → ℕ → Type 0
Has m x v = IsVersion v (get m x)

in_tree : (m : Nodes) (x v : ℕ) (o : Option Node) → get m x ≡ o → IsVersion v o → HasVersion m v
in_tree m x v None at is = absurd is
in_tree m x v (Some n) at is = record { id = x; node = n; here = at; ver = is }

pub has_version : (m : Nodes) (x v : ℕ) → Has m x v → HasVersion m v
has_version m x v has = in_tree m x v (get m x) refl has

pub version_at : (m : Nodes) (v : ℕ) (has : HasVersion m v) → Has m has.id v
version_at m v has = subst (IsVersion v) (sym has.here) has.ver

-- AN ENTRY that takes a version away from its identity has it gone by
abbrev pub Replaces : (ℕ → Type 0) → Nodes → List Entry → Type 0
Replaces Gone m [] = Unit {0}
Replaces Gone m (e ∷ es) = ((v : ℕ) → 0 < v → Has m e.id.0 v → IsVersion v e.value ⊎ Gone v) × Replaces Gone (with_value m e.id.0 e.value) es

abbrev pub IsKeptJournal : WebState → Type 0
IsKeptJournal s = Replaces (GoneBy s.edits) empty s.entries

-- AN OPERATION in flight. What becomes of a version that Local has when it lands
pub data Fate (r : Recorded) (op : Op) (v : ℕ) : Type 0 where
  stays : IsVersion v (node_after op.local op.old_local) → Fate r op v
  gone : GoneBy r v → Fate r op v
  adopts : Any (λ (a : Adoption). a.old.0 ≡ v) (adopted_by (same_hash r.edits) op.old_local op.local) → Fate r op v

-- what it makes of its own identity in Local
abbrev pub own_change : Bool → Change → Change
own_change true c = Cut
own_change false c = c

abbrev pub local_then : Op → Option Node
local_then op = node_after (own_change (is_split op.verb) op.local) op.old_local

abbrev pub synced_then : Op → Option Node
synced_then op = node_after op.synced op.old_synced

-- carried out in the folder, or nowhere: what Synced has then is what Local has then, and Remote had it
pub record Lands (s : WebState) (r : Nodes) (op : Op) : Type 0 where
  pub fate : (v : ℕ) → 0 < v → IsVersion v op.old_local → Fate s.edits op v
  pub both : (v : ℕ) → 0 < v → IsVersion v (synced_then op) → IsVersion v (local_then op) ⊎ GoneBy s.edits v
  pub remote : (v : ℕ) → 0 < v → IsVersion v (synced_then op) → Has r op.id.0 v ⊎ GoneBy s.edits v

-- a commit: what it replaces at the revision that it is based on is gone by, and what Synced has then Local has now
pub record Commits (s : WebState) (l : Nodes) (op : Op) : Type 0 where
  pub from : ℕ
  pub within : from ≤ length s.entries
  pub base : op.base ≡ revision_of (take from s.entries) op.id.0
  pub replaces : (v : ℕ) → 0 < v → Has (tree_of (take from s.entries)) op.id.0 v → IsVersion v (committed op.remote) ⊎ GoneBy s.edits v
  pub local : (v : ℕ) → 0 < v → IsVersion v (synced_then op) → Has l op.id.0 v ⊎ GoneBy s.edits v
  pub synced : (v : ℕ) → 0 < v → IsVersion v (synced_then op) → IsVersion v op.old_synced ⊎ IsVersion v (committed op.remote)

abbrev pub IsFineOp : WebState → ClientState → Op → Effect → Type 0
IsFineOp s c op effect.Disk = Lands s c.remote.tree op
IsFineOp s c op effect.Commit = Commits s c.local.tree op
IsFineOp s c op effect.Nothing = ⊥

-- the journal has what was accepted, and a commit isn't made in the folder
pub record IsEntered (s : WebState) (op : Op) (rev : ℕ) : Type 0 where
  pub within : rev ≤ length s.entries
  pub gave : (v : ℕ) → 0 < v → IsVersion v (committed op.remote) → Has (tree_of (take rev s.entries)) op.id.0 v

abbrev pub IsFineTaken : WebState → Op → Effect → Taken → Type 0
IsFineTaken s op effect.Disk (came.Folder o) = Unit {0}
IsFineTaken s op effect.Disk (came.Accepted rev) = ⊥
IsFineTaken s op effect.Disk (came.Refused why) = Unit {0}
IsFineTaken s op effect.Commit (came.Folder o) = is_success o ≡ false
IsFineTaken s op effect.Commit (came.Accepted rev) = IsEntered s op rev
IsFineTaken s op effect.Commit (came.Refused why) = Unit {0}
IsFineTaken s op effect.Nothing t = ⊥

abbrev pub IsFineStage : WebState → Op → Effect → Stage → Type 0
IsFineStage s op e planned = Unit {0}
IsFineStage s op e started = Unit {0}
IsFineStage s op e (taken t) = IsFineTaken s op e t

pub record IsFine (s : WebState) (c : ClientState) (f : Flight) : Type 0 where
  pub op : IsFineOp s c f.op f.op.effect
  pub stage : IsFineStage s f.op f.op.effect f.stage

-- a split flies alone
abbrev pub IsWhole : Flight → Type 0
IsWhole f = is_split f.op.verb ≡ false

abbrev pub AreAlone : List Flight → Type 0
AreAlone fs = (length fs ≤ 1) ⊎ All IsWhole fs

-- A CLIENT: a version of Synced that Remote or Local hasn't any more is gone by
pub record IsClear (s : WebState) (c : ClientState) : Type 0 where
  pub remote : (x v : ℕ) → 0 < v → Has c.synced x v → Has c.remote.tree x v ⊎ GoneBy s.edits v
  pub local : (x v : ℕ) → 0 < v → Has c.synced x v → Has c.local.tree x v ⊎ GoneBy s.edits v
  pub flights : All (IsFine s c) c.flights
  pub alone : AreAlone c.flights

-- WHAT ALL SHARE goes on: what was gone by is so, what had one hash has, and entries only came
pub record Further (s t : WebState) : Type 0 where
  pub gone : (v : ℕ) → GoneBy s.edits v → GoneBy t.edits v
  pub same : (a b : ℕ) → same_hash s.edits.edits a b ≡ true → same_hash t.edits.edits a b ≡ true
  pub more : List Entry
  pub entries : t.entries ≡ s.entries ++ more

-- an edit that came: its version isn't 0, and stands in a tree where it was put
abbrev pub StandsAs : WebState → Nodes → EditKind → ℕ → Type 0
StandsAs s local (edit.Put content) v = HasVersion (tree_of s.entries) v ⊎ HasVersion local v
StandsAs s local edit.Deleted v = Unit {0}

pub record Comes (s : WebState) (local : Nodes) (e : Edit) : Type 0 where
  pub some : 0 < e.ver.0
  pub stands : StandsAs s local e.what e.ver.0

-- A TURN that loses nothing
pub record Fares (t u : Turn) : Type 0 where
  pub further : Further t.shared u.shared
  pub local : (v : ℕ) → 0 < v → HasVersion t.member.client.local.tree v → HasVersion u.member.client.local.tree v ⊎ GoneBy u.shared.edits v
  pub new : List Edit
  pub recorded : u.shared.edits.edits ≡ t.shared.edits.edits ++ new
  pub comes : All (Comes u.shared u.member.client.local.tree) new
  pub journal : IsKeptJournal u.shared
  pub clear : IsClear u.shared u.member.client

-- AFTER A CHANGE OF A TREE
pub has_changed : (m : Nodes) (x : ℕ) (c : Change) (v : ℕ) → IsVersion v (node_after c (get m x)) → Has (changed m x c) x v
has_changed m x Keep v is = is
has_changed m x (Put n) v is = subst (IsVersion v) (sym (get_put_same m x n)) is
has_changed m x Cut v is = absurd is

pub changed_has : (m : Nodes) (x : ℕ) (c : Change) (v : ℕ) → Has (changed m x c) x v → IsVersion v (node_after c (get m x))
changed_has m x Keep v is = is
changed_has m x (Put n) v is = subst (IsVersion v) (get_put_same m x n) is
changed_has m x Cut v is = subst (IsVersion v) (get_cut_same m x) is

pub changed_other : (m : Nodes) (x : ℕ) (c : Change) (y : ℕ) → ¬ (y ≡ x) → get (changed m x c) y ≡ get m y
changed_other m x Keep y apart = refl
changed_other m x (Put n) y apart = get_put_other m x n y apart
changed_other m x Cut y apart = get_cut_other m x y apart

-- who has a version is there
node_by : (m : Nodes) (x v : ℕ) (o : Option Node) → get m x ≡ o → IsVersion v o → (n : Node) × (get m x ≡ Some n) × (n.ver.0 ≡ v)
node_by m x v None at is = absurd is
node_by m x v (Some n) at is = (n, at, is)

pub node_at : (m : Nodes) (x v : ℕ) → Has m x v → (n : Node) × (get m x ≡ Some n) × (n.ver.0 ≡ v)
node_at m x v has = node_by m x v (get m x) refl has
