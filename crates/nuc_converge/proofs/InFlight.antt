-- What flies of a client that is left alone: a batch, of which any part may have begun, been taken, and come back; or a mend.
use Rattle.std.proofs.Common.{◌≡◌, ◌≢◌, ◌≤◌, ℕ, Bool, true, false, List, [], ◌∷◌, Option, None, Some, drop}
use Rattle.std.specs.Prelude.{◌==◌, Contains}
use Rattle.std.specs.List.{list_any}
use Rattle.std.specs.FinMap.{get}
use Rattle.nuc_base.specs.Ready.{AllReady}
use Rattle.nuc_base.specs.Trees.{Nodes}
use Rattle.nuc_base.specs.declared.change.Change.{Change}
use Rattle.nuc_base.specs.declared.change.Change.TheVariants.{Keep, Put, Cut}
use Rattle.nuc_base.specs.declared.node.Node.{Node}
use Rattle.nuc_class.specs.Merge.{target}
use Rattle.nuc_class.specs.Wishes.{AllEqual, WantsDown}
use Rattle.nuc_class.specs.declared.op.Effect.TheVariants as effect
use Rattle.nuc_class.specs.declared.op.Op.{Op}
use Rattle.nuc_conflict.specs.Facts.{MendFacts}
use Rattle.nuc_flights.specs.Flights.{Flight, Stage, planned, started, taken}
use Rattle.nuc_flights.specs.declared.taken.Taken.{Taken}
use Rattle.nuc_flights.specs.declared.taken.Taken.TheVariants as came
use Rattle.nuc_folder.specs.Outcome.{is_success}
use Rattle.nuc_journal.specs.declared.entry.Entry.{Entry}
use Rattle.nuc_step.specs.Client.{ClientState}
use Rattle.nuc_step.specs.Steps.{is_split}
use Rattle.nuc_world.specs.Takes.{committed}

-- BY ITS STAGE. The entry of its commit has come
abbrev pub HasCome : ℕ → Stage → Type 0
HasCome cursor (taken (came.Accepted rev)) = rev ≤ cursor
HasCome cursor _ = ⊥

-- it is carried out in the folder, where nothing goes wrong
abbrev pub IsInFolder : Stage → Type 0
IsInFolder planned = Unit {0}
IsInFolder started = Unit {0}
IsInFolder (taken (came.Folder o)) = is_success o ≡ true
IsInFolder (taken (came.Accepted rev)) = ⊥
IsInFolder (taken (came.Refused why)) = ⊥

-- or at the server, which may refuse it
abbrev pub IsAtServer : Stage → Type 0
IsAtServer planned = Unit {0}
IsAtServer started = Unit {0}
IsAtServer (taken (came.Folder o)) = ⊥
IsAtServer (taken (came.Accepted rev)) = Unit {0}
IsAtServer (taken (came.Refused why)) = Unit {0}

-- it changes the three trees so
pub record Writes (op : Op) (in_remote in_local in_synced : Change) : Type 0 where
  pub remote : op.remote ≡ in_remote
  pub local : op.local ≡ in_local
  pub synced : op.synced ≡ in_synced
  pub one : is_split op.verb ≡ false

-- WHAT AN OPERATION OF A BATCH MEANS, by the values that its identity has now. A commit means one thing before its entry has
-- come, and another after that
pub data Means (same : ℕ → ℕ → Bool) (r l s : Nodes) (cursor : ℕ) (f : Flight) : Type 0 where
  down : (n : Node) → get r f.op.id.0 ≡ Some n → WantsDown same ⊥ (get r f.op.id.0) (get l f.op.id.0) (get s f.op.id.0)
      → Writes f.op Keep (Put (target n (get l f.op.id.0) (get s f.op.id.0))) (Put n) → f.op.effect ≡ effect.Disk → IsInFolder f.stage → Means same r l s cursor f
  cut_down : (n : Node) → get r f.op.id.0 ≡ None → get l f.op.id.0 ≡ Some n → Writes f.op Keep Cut Cut → f.op.effect ≡ effect.Disk → IsInFolder f.stage
      → Means same r l s cursor f
  up : (n : Node) → get l f.op.id.0 ≡ Some n → ¬ (AllEqual (get r f.op.id.0) (get l f.op.id.0) (get s f.op.id.0)) → Writes f.op (Put n) Keep (Put n)
      → f.op.effect ≡ effect.Commit → IsAtServer f.stage → ¬ (HasCome cursor f.stage) → Means same r l s cursor f
  up_came : (n : Node) → get r f.op.id.0 ≡ Some n → get l f.op.id.0 ≡ Some n → Writes f.op (Put n) Keep (Put n) → f.op.effect ≡ effect.Commit
      → HasCome cursor f.stage → Means same r l s cursor f
  cut_up : (n : Node) → get l f.op.id.0 ≡ None → get r f.op.id.0 ≡ Some n → Writes f.op Cut Keep Cut → f.op.effect ≡ effect.Commit → IsAtServer f.stage
      → ¬ (HasCome cursor f.stage) → Means same r l s cursor f
  cut_came : get r f.op.id.0 ≡ None → get l f.op.id.0 ≡ None → Writes f.op Cut Keep Cut → f.op.effect ≡ effect.Commit → HasCome cursor f.stage
      → Means same r l s cursor f

-- what is to come to Remote yet: what each writes there, whose entry hasn't come
pub record IsToCome (cursor : ℕ) (fs : List Flight) (x : ℕ) (c : Change) : Type 0 where
  pub f : Flight
  pub flies : Contains fs f
  pub id : f.op.id.0 ≡ x
  pub writes : f.op.remote ≡ c
  pub waits : ¬ (HasCome cursor f.stage)

-- an entry is that of an operation in flight
pub record IsEntryOf (e : Entry) (f : Flight) : Type 0 where
  pub stage : f.stage ≡ taken (came.Accepted e.rev)
  pub id : e.id.0 ≡ f.op.id.0
  pub value : e.value ≡ committed f.op.remote

pub record IsOwn (fs : List Flight) (e : Entry) : Type 0 where
  pub f : Flight
  pub flies : Contains fs f
  pub is : IsEntryOf e f

-- A BATCH, or what is left of one: nothing at last. The entries behind the cursor are those of its commits
pub record IsBatch (same : ℕ → ℕ → Bool) (r l s : Nodes) (cursor : ℕ) (entries : List Entry) (fs : List Flight) : Type 0 where
  pub means : (f : Flight) → Contains fs f → Means same r l s cursor f
  pub one_id : (f g : Flight) → Contains fs f → Contains fs g → f.op.id.0 ≡ g.op.id.0 → f ≡ g
  pub one_revision : (f g : Flight) (rev : ℕ) → Contains fs f → Contains fs g → f.stage ≡ taken (came.Accepted rev) → g.stage ≡ taken (came.Accepted rev) → f ≡ g
  pub ready : AllReady r (IsToCome cursor fs)
  pub news : (e : Entry) → Contains (drop cursor entries) e → IsOwn fs e

-- A MEND that flies alone. It is carried out in the folder and doesn't write Remote, or it is a commit that doesn't write Local
pub data IsPlaced (op : Op) (stage : Stage) : Type 0 where
  in_folder : op.effect ≡ effect.Disk → op.remote ≡ Keep → IsInFolder stage → IsPlaced op stage
  at_server : (n : Node) → op.effect ≡ effect.Commit → op.remote ≡ Put n → op.local ≡ Keep → is_split op.verb ≡ false → IsAtServer stage → IsPlaced op stage

pub record IsMend (same : ℕ → ℕ → Bool) (r l s : Nodes) (cursor : ℕ) (entries : List Entry) (f : Flight) : Type 0 where
  pub next : ℕ
  pub op : Op
  pub shown : f.op ≡ record op { number = f.op.number; base = f.op.base }
  pub facts : MendFacts same r l s next op
  pub agreed : op.remote ≢ Keep → get s op.id.0 ≡ get r op.id.0
  pub placed : IsPlaced f.op f.stage
  pub waits : ¬ (HasCome cursor f.stage)
  pub news : (e : Entry) → Contains (drop cursor entries) e → IsEntryOf e f

-- WHAT FLIES of a client whose server has these entries
pub data IsAlone (same : ℕ → ℕ → Bool) (entries : List Entry) (c : ClientState) : Type 0 where
  batch : IsBatch same c.remote.tree c.local.tree c.synced c.remote.cursor entries c.flights → IsAlone same entries c
  mend : (f : Flight) → c.flights ≡ f ∷ [] → IsMend same c.remote.tree c.local.tree c.synced c.remote.cursor entries f → IsAlone same entries c

-- which identities have an operation in flight
abbrev pub flies : List Flight → ℕ → Bool
flies fs x = list_any (λ f. f.op.id.0 == x) fs
