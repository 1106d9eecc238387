-- The steps of a client: what each call makes of its state. A Done may end in several ways, and each is a case.
use Rattle.std.specs.Prelude.{◌≡◌, ◌+◌, ◌++◌, ◌∷◌, [], ℕ, Bool, true, false, cond, List, map, length, Option, None, Some}
use Rattle.std.specs.FinMap.{get, insert, remove}
use Rattle.nuc_base.specs.Changes.{IsLegal, changed}
use Rattle.nuc_base.specs.Ready.{LegalInTurn, all_changed}
use Rattle.nuc_base.specs.Trees.{Nodes}
use Rattle.nuc_base.specs.declared.change.Change.{Change}
use Rattle.nuc_base.specs.declared.change.Change.TheVariants.{Keep, Put, Cut}
use Rattle.nuc_base.specs.declared.node.Node.{Node}
use Rattle.nuc_class.specs.Effects.{adopts}
use Rattle.nuc_class.specs.declared.op.Effect.{Effect}
use Rattle.nuc_class.specs.declared.op.Effect.TheVariants as effect
use Rattle.nuc_class.specs.declared.op.Op.{Op}
use Rattle.nuc_class.specs.declared.op.Verb.{Verb}
use Rattle.nuc_class.specs.declared.op.Verb.TheVariants as verb
use Rattle.nuc_edits.specs.Edits.{Recorded, same_hash}
use Rattle.nuc_edits.specs.declared.edit.Adoption.{Adoption}
use Rattle.nuc_flights.specs.Flights.{Flight, Stage, as_planned, flight_of, planned, staged, started, taken, without}
use Rattle.nuc_flights.specs.declared.taken.Taken.{Taken}
use Rattle.nuc_flights.specs.declared.taken.Taken.TheVariants as came
use Rattle.nuc_folder.specs.Outcome.{is_success}
use Rattle.nuc_folder.specs.declared.outcome.Outcome.{Outcome}
use Rattle.nuc_folder.specs.declared.outcome.Outcome.TheVariants as outcome
use Rattle.nuc_journal.specs.declared.entry.Entry.{Entry}
use Rattle.nuc_observe.specs.Keys.{IsUnheld, KeyMap}
use Rattle.nuc_replica.specs.Local.{LocalState, moved_key}
use Rattle.nuc_replica.specs.Remote.{RemoteState, caught_up, forgotten, heard, or_zero, with_entries}
use Rattle.nuc_step.specs.Client.{ClientState}
use Rattle.nuc_step.specs.declared.reason.Reason.{Reason}
use Rattle.nuc_step.specs.declared.reason.Reason.TheVariants as reason
use Rattle.nuc_step.specs.declared.reply.DoneReply.{DoneReply}
use Rattle.nuc_step.specs.declared.reply.DoneReply.TheVariants as done

-- FLY. The revision that a commit takes for the current one of its identity: the one that Remote has, 0 for none
abbrev pub base_of : Effect → RemoteState → ℕ → ℕ
base_of effect.Commit remote x = or_zero (get remote.revisions x)
base_of effect.Disk remote x = 0
base_of effect.Nothing remote x = 0

-- the operations with their numbers, from n on, and their bases
abbrev pub numbered : ℕ → RemoteState → List Op → List Op
numbered n remote [] = []
numbered n remote (op ∷ ops) = record op { number = n; base = base_of op.effect remote op.id.0 } ∷ numbered (n + 1) remote ops

abbrev pub after_fly : List Op → ClientState → ClientState
after_fly ops c = record c {
  flights = c.flights ++ map as_planned (numbered c.next_op c.remote ops);
  next_op = c.next_op + length ops;
}

-- PULL
abbrev pub after_pull : List Entry → ClientState → ClientState
after_pull page c = record c { remote = with_entries c.remote page }

-- START
abbrev pub after_start : ℕ → ClientState → ClientState
after_start n c = record c { flights = staged n started c.flights }

-- TAKE. The server's entries up to an accepted commit are heard of, and wait for the Done
abbrev pub after_take : ℕ → Taken → List Entry → ClientState → ClientState
after_take n t news c = record c { flights = staged n (taken t) c.flights; remote = heard news c.remote }

-- RESTART
abbrev pub after_restart : ClientState → ClientState
after_restart c = record c { flights = []; remote = forgotten c.remote }

-- DONE. A split has two identities: its own, and the one that the local version is given to
abbrev pub is_split : Verb → Bool
is_split verb.Split = true
is_split _ = false

-- the changes that an operation makes in Local, one after the other
abbrev pub split_changes : Op → List (ℕ × Change)
split_changes op = (op.other.0, op.local) ∷ (op.id.0, Cut) ∷ []

abbrev pub local_changes : Op → List (ℕ × Change)
local_changes op = cond (is_split op.verb) (split_changes op) ((op.id.0, op.local) ∷ [])

-- a node comes below x
abbrev pub PutsBelow : Change → ℕ → Type 0
PutsBelow Keep x = ⊥
PutsBelow (Put n) x = n.place.parent.0 ≡ x
PutsBelow Cut x = ⊥

-- the other identity of a split is new
abbrev pub OtherIsNew : Bool → Nodes → ℕ → Type 0
OtherIsNew true m z = get m z ≡ None
OtherIsNew false m z = Unit {0}

-- nobody has the key that was made
abbrev pub KeyIsFree : KeyMap → Outcome → Type 0
KeyIsFree keys (outcome.Made k) = IsUnheld keys k.0
KeyIsFree keys _ = Unit {0}

-- Synced is as it was at the plan, and may be written
pub record SyncedReady (m : Nodes) (op : Op) : Type 0 where
  pub old : get m op.id.0 ≡ op.old_synced
  pub legal : IsLegal m op.id.0 op.synced

-- so is Local
pub record LocalReady (l : LocalState) (op : Op) (o : Outcome) : Type 0 where
  pub old : get l.tree op.id.0 ≡ op.old_local
  pub other : OtherIsNew (is_split op.verb) l.tree op.other.0
  pub legal : LegalInTurn l.tree (local_changes op)
  pub key : KeyIsFree l.keys o

-- what was planned can be written: for a commit in Synced, for what was made in the folder in Local too
abbrev pub CanLand : ClientState → Op → Taken → Type 0
CanLand c op (came.Folder o) = LocalReady c.local op o × SyncedReady c.synced op
CanLand c op (came.Accepted rev) = SyncedReady c.synced op
CanLand c op (came.Refused r) = ⊥

-- keys follow Local: what is new has the key that was made, what goes loses its own, and a split hands it on
abbrev pub keys_with : Option Node → Change → Outcome → ℕ → KeyMap → KeyMap
keys_with None (Put n) (outcome.Made k) x keys = insert keys x k.0
keys_with old Cut o x keys = remove keys x
keys_with old _ o x keys = keys

abbrev pub keys_after : Op → Outcome → KeyMap → KeyMap
keys_after op o keys = cond (is_split op.verb) (moved_key keys op.id.0 op.other.0 (get keys op.id.0)) (keys_with op.old_local op.local o op.id.0 keys)

abbrev pub local_after : Op → Outcome → LocalState → LocalState
local_after op o l = record { tree = all_changed l.tree (local_changes op); keys = keys_after op o l.keys }

-- the values that were planned are written
abbrev pub landed : Op → Taken → ClientState → ClientState
landed op (came.Folder o) c = record c {
  local = local_after op o c.local;
  synced = changed c.synced op.id.0 op.synced;
  changes = c.changes + 1;
}
landed op (came.Accepted rev) c = record c { synced = changed c.synced op.id.0 op.synced }
landed op (came.Refused r) c = c

-- a version that a node of Local gives up for another of the same content is adopted into that
abbrev pub adopted_by : (ℕ → ℕ → Bool) → Option Node → Change → List Adoption
adopted_by same (Some l) (Put n) = cond (adopts same l n) (record { old = l.ver; into = n.ver } ∷ []) []
adopted_by same _ _ = []

abbrev pub adoptions_of : Op → Taken → Recorded → List Adoption
adoptions_of op (came.Folder o) e = adopted_by (same_hash e.edits) op.old_local op.local
adoptions_of op _ e = []

abbrev pub with_adoptions : Op → Taken → Recorded → Recorded
with_adoptions op t e = record e { adoptions = e.adoptions ++ adoptions_of op t e }

-- Remote takes what was heard of, up to the commit that was accepted
abbrev pub caught_up_to : Taken → RemoteState → RemoteState
caught_up_to (came.Accepted rev) remote = caught_up rev remote
caught_up_to _ remote = remote

-- whatever came of it, it is in flight no more
abbrev pub finished : ℕ → Taken → ClientState → ClientState
finished n t c = record c { remote = caught_up_to t c.remote; flights = without n c.flights }

-- why the outside change wasn't made, where it wasn't
abbrev pub reason_of : Taken → Option Reason
reason_of (came.Folder o) = cond (is_success o) None (Some (reason.Folder o))
reason_of (came.Accepted rev) = None
reason_of (came.Refused r) = Some (reason.Server r)

-- how an operation ends that was taken so: dropped where its outside change wasn't made; else applied where what was
-- planned can be written, and else stale
abbrev pub Ends : ℕ → Op → Taken → Option Reason → ClientState → Recorded → DoneReply → ClientState → Recorded → Type 0
Ends n op t None c e done.Applied d f =
    CanLand (finished n t c) op t × (d ≡ landed op t (finished n t c)) × (f ≡ with_adoptions op t e)
Ends n op t None c e done.Stale d f = ¬ (CanLand (finished n t c) op t) × (d ≡ finished n t c) × (f ≡ e)
Ends n op t (Some why) c e (done.Dropped w) d f = (w ≡ why) × (d ≡ finished n t c) × (f ≡ e)
Ends n op t _ c e _ d f = ⊥

-- there is none to end
abbrev pub NothingToEnd : ClientState → Recorded → DoneReply → ClientState → Recorded → Type 0
NothingToEnd c e done.NoSuchOp d f = (d ≡ c) × (f ≡ e)
NothingToEnd c e _ d f = ⊥

-- by its stage
abbrev pub EndsAt : ℕ → Op → Stage → ClientState → Recorded → DoneReply → ClientState → Recorded → Type 0
EndsAt n op (taken t) c e r d f = Ends n op t (reason_of t) c e r d f
EndsAt n op planned c e r d f = NothingToEnd c e r d f
EndsAt n op started c e r d f = NothingToEnd c e r d f

-- by whether one is in flight
abbrev pub EndsOf : ℕ → Option Flight → ClientState → Recorded → DoneReply → ClientState → Recorded → Type 0
EndsOf n None c e r d f = NothingToEnd c e r d f
EndsOf n (Some flight) c e r d f = EndsAt n flight.op flight.stage c e r d f

-- a Done of the operation under this number: of a client and what is recorded, with its reply
abbrev pub IsDone : ℕ → ClientState → Recorded → DoneReply → ClientState → Recorded → Type 0
IsDone n c e r d f = EndsOf n (flight_of n c.flights) c e r d f
