-- A Done ends in one way, and writes little.
use Rattle.std.proofs.Common.{◌≡◌, ℕ, Bool, true, false, cond, [], ◌∷◌, Option, None, Some, refl, sym, subst, inl, inr, rules}
use Rattle.nuc_base.specs.Changes.{changed}
use Rattle.nuc_base.specs.Ready.{all_changed}
use Rattle.nuc_base.specs.Trees.{Nodes}
use Rattle.nuc_base.specs.declared.change.Change.TheVariants.{Keep, Cut}
use Rattle.nuc_class.specs.declared.op.Op.{Op}
use Rattle.nuc_edits.specs.Edits.{Recorded}
use Rattle.nuc_flights.specs.Flights.{Flight, Stage, flight_of, planned, started, taken}
use Rattle.nuc_flights.specs.declared.taken.Taken.{Taken}
use Rattle.nuc_flights.specs.declared.taken.Taken.TheVariants as came
use Rattle.nuc_replica.specs.Remote.{RemoteState}
use Rattle.nuc_step.specs.Client.{ClientState}
use Rattle.nuc_step.specs.Laws.{DoneWritesOnce, OneEnd, Writes, WritesLocal, WritesOf, WritesRemote}
use Rattle.nuc_step.specs.Steps.{Ends, EndsAt, EndsOf, NothingToEnd, caught_up_to, finished, is_split, landed, reason_of, split_changes}
use Rattle.nuc_step.specs.declared.reason.Reason.{Reason}
use Rattle.nuc_step.specs.declared.reply.DoneReply.{DoneReply}
use Rattle.nuc_step.proofs.Outcomes.{Came, came_of}
use Rattle.nuc_step.proofs.Outcomes.Came.{applied, dropped, nothing}

-- ONE END
module _ (c d b : ClientState) (e f g : Recorded) where
  abbrev Agree : DoneReply → DoneReply → Type 0
  Agree r q = (r ≡ q) × (d ≡ b) × (f ≡ g)

  one_nothing : (r q : DoneReply) → NothingToEnd c e r d f → NothingToEnd c e q b g → Agree r q
  one_nothing = search rules

  one_of : (n : ℕ) (op : Op) (t : Taken) (why : Option Reason) (r q : DoneReply) → Ends n op t why c e r d f → Ends n op t why c e q b g → Agree r q
  one_of = search rules

  one_at : (n : ℕ) (op : Op) (stage : Stage) (r q : DoneReply) → EndsAt n op stage c e r d f → EndsAt n op stage c e q b g → Agree r q
  one_at n op planned r q = one_nothing r q
  one_at n op started r q = one_nothing r q
  one_at n op (taken t) r q = one_of n op t (reason_of t) r q

  one_end_of : (n : ℕ) (o : Option Flight) (r q : DoneReply) → EndsOf n o c e r d f → EndsOf n o c e q b g → Agree r q
  one_end_of n None r q = one_nothing r q
  one_end_of n (Some flight) r q = one_at n flight.op flight.stage r q

pub one_end : OneEnd
one_end n c d b e f g r q = one_end_of c d b e f g n (flight_of n c.flights) r q

-- WHAT IT WRITES
local_stays : (split : Bool) (op : Op) (m : Nodes) → WritesLocal split op m m
local_stays true op m = (m, (Keep, refl), (Keep, refl))
local_stays false op m = (Keep, refl)

local_written : (split : Bool) (op : Op) (m : Nodes) → WritesLocal split op m (all_changed m (cond split (split_changes op) ((op.id.0, op.local) ∷ [])))
local_written true op m = (changed m op.other.0 op.local, (op.local, refl), (Cut, refl))
local_written false op m = (op.local, refl)

remote_written : (t : Taken) (remote : RemoteState) → WritesRemote remote (caught_up_to t remote)
remote_written (came.Folder o) remote = inl refl
remote_written (came.Accepted rev) remote = inr (rev, refl)
remote_written (came.Refused why) remote = inl refl

finished_writes : (n : ℕ) (op : Op) (t : Taken) (c : ClientState) → Writes op c (finished n t c)
finished_writes n op t c = record { remote = remote_written t c.remote; local = local_stays (is_split op.verb) op c.local.tree; synced = (Keep, refl) }

landed_writes : (n : ℕ) (op : Op) (t : Taken) (c : ClientState) → Writes op c (landed op t (finished n t c))
landed_writes n op (came.Folder o) c = record { remote = inl refl; local = local_written (is_split op.verb) op c.local.tree; synced = (op.synced, refl) }
landed_writes n op (came.Accepted rev) c = record { remote = inr (rev, refl); local = local_stays (is_split op.verb) op c.local.tree; synced = (op.synced, refl) }
landed_writes n op (came.Refused why) c = finished_writes n op (came.Refused why) c

same_writes : (op : Op) (c : ClientState) → Writes op c c
same_writes op c = record { remote = inl refl; local = local_stays (is_split op.verb) op c.local.tree; synced = (Keep, refl) }

nothing_writes : (c d : ClientState) (o : Option Flight) → d ≡ c → WritesOf o c d
nothing_writes c d None same = same
nothing_writes c d (Some flight) same = subst (Writes flight.op c) (sym same) (same_writes flight.op c)

writes_of : (n : ℕ) (c d : ClientState) (o : Option Flight) → Came n c d o → WritesOf o c d
writes_of n c d o (nothing p same) = nothing_writes c d p same
writes_of n c d o (dropped flight t stage is) = subst (Writes flight.op c) (sym is) (finished_writes n flight.op t c)
writes_of n c d o (applied flight t stage why can is) = subst (Writes flight.op c) (sym is) (landed_writes n flight.op t c)

pub writes_once : DoneWritesOnce
writes_once n c d e f r ends = writes_of n c d (flight_of n c.flights) (came_of n c d e f r ends)
