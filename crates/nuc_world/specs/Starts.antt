-- How an operation begins: an upload reads its file.
use Rattle.std.specs.Prelude.{◌≡◌, ◌==◌, ◌||◌, ◌&&◌, ℕ, Bool, true, false, not, [], Option, None, Some}
use Rattle.std.specs.FinMap.{get}
use Rattle.nuc_base.specs.declared.change.Change.{Change}
use Rattle.nuc_base.specs.declared.change.Change.TheVariants.{Keep, Put, Cut}
use Rattle.nuc_base.specs.declared.node.Kind.{Kind}
use Rattle.nuc_base.specs.declared.node.Kind.TheVariants.{Folder, File}
use Rattle.nuc_base.specs.declared.node.Node.{Node}
use Rattle.nuc_class.specs.declared.op.Op.{Op}
use Rattle.nuc_class.specs.declared.op.Verb.{Verb}
use Rattle.nuc_class.specs.declared.op.Verb.TheVariants as verb
use Rattle.nuc_flights.specs.Flights.{flight_of}
use Rattle.nuc_flights.specs.declared.taken.Taken.TheVariants as came
use Rattle.nuc_folder.specs.declared.outcome.Outcome.{Outcome}
use Rattle.nuc_folder.specs.declared.outcome.Outcome.TheVariants as outcome
use Rattle.nuc_log.specs.declared.reply.StartReply.{StartReply}
use Rattle.nuc_log.specs.declared.reply.StartReply.TheVariants as start
use Rattle.nuc_step.specs.Client.{ClientState}
use Rattle.nuc_step.specs.Stages.{planned_of}
use Rattle.nuc_step.specs.Steps.{after_start, after_take}
use Rattle.nuc_world.specs.State.{MemberState, after_one, is_due}

-- WHAT AN UPLOAD IS: the Up of a file that is new at the server, or whose version isn't the one that was agreed on
abbrev pub is_up : Verb → Bool
is_up verb.Up = true
is_up _ = false

abbrev pub is_file : Kind → Bool
is_file Folder = false
is_file File = true

abbrev pub has_version : Option Node → ℕ → Bool
has_version None v = false
has_version (Some n) v = n.ver.0 == v

abbrev pub brings_content : Change → ℕ → Option Node → Bool
brings_content Keep base agreed = false
brings_content (Put n) base agreed = is_file n.kind && ((base == 0) || not (has_version agreed n.ver.0))
brings_content Cut base agreed = false

abbrev pub is_upload : Op → Bool
is_upload op = is_up op.verb && brings_content op.remote op.base op.old_synced

-- WHAT BECOMES OF THE MEMBER
abbrev pub with_client : ClientState → MemberState → MemberState
with_client c m = record m { client = c }

abbrev pub has_started : ℕ → MemberState → MemberState
has_started n m = with_client (after_start n m.client) m

-- it begins, and is taken so at once
abbrev pub is_over : ℕ → Outcome → MemberState → MemberState
is_over n o m = with_client (after_take n (came.Folder o) [] (after_start n m.client)) m

-- one call of the folder more
abbrev pub called : MemberState → MemberState
called m = record m { due = after_one m.due }

-- the read of a file of this key: it fails exactly where that call is to fail
abbrev pub Reads : ℕ → ℕ → MemberState → StartReply → MemberState → Type 0
Reads n key m (start.Ok (Some bytes)) u = (is_due m.due ≡ false) × (get m.folder.held.bytes key ≡ Some bytes) × (u ≡ called (has_started n m))
Reads n key m start.Changed u = (is_due m.due ≡ false) × (get m.folder.held.bytes key ≡ None) × (u ≡ called (is_over n outcome.Changed m))
Reads n key m start.Failed u = (is_due m.due ≡ true) × (u ≡ called (is_over n outcome.Failed m))
Reads n key m _ u = ⊥

-- an upload reads its file where Local's identity has a key, and is taken as changed where it has none
abbrev pub Uploads : ℕ → Option ℕ → MemberState → StartReply → MemberState → Type 0
Uploads n (Some key) m r u = Reads n key m r u
Uploads n None m r u = (r ≡ start.Changed) × (u ≡ is_over n outcome.Changed m)

abbrev pub Begins : ℕ → Op → Bool → MemberState → StartReply → MemberState → Type 0
Begins n op true m r u = Uploads n (get m.client.local.keys op.id.0) m r u
Begins n op false m r u = (r ≡ start.Ok None) × (u ≡ has_started n m)

abbrev pub StartsOf : ℕ → Option Op → MemberState → StartReply → MemberState → Type 0
StartsOf n None m r u = (r ≡ start.NoSuchOp) × (u ≡ m)
StartsOf n (Some op) m r u = Begins n op (is_upload op) m r u

-- the operation under this number begins
abbrev pub Starts : ℕ → MemberState → StartReply → MemberState → Type 0
Starts n m r u = StartsOf n (planned_of (flight_of n m.client.flights)) m r u
