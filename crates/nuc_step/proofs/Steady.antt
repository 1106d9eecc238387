-- Each step keeps a client.
use Rattle.std.specs.Prelude.{All, IfSome}
use Rattle.std.proofs.Common.{◌≡◌, ◌≤◌, ◌<◌, ◌+◌, ◌++◌, ℕ, true, false, cond, List, [], ◌∷◌, length, map, Option, None, Some, refl, sym, subst, arith}
use Rattle.std.proofs.lemmas.List.Elements.{All-append, All-map, All-nil, All-weaker}
use Rattle.nuc_base.proofs.Changed.{tree_after}
use Rattle.nuc_class.specs.declared.op.Op.{Op}
use Rattle.nuc_flights.specs.Flights.{Flight, Stage, as_planned, flight_of, staged, started, taken, without}
use Rattle.nuc_flights.specs.declared.taken.Taken.{Taken}
use Rattle.nuc_flights.specs.declared.taken.Taken.TheVariants as came
use Rattle.nuc_folder.specs.Outcome.{is_success}
use Rattle.nuc_folder.specs.declared.outcome.Outcome.{Outcome}
use Rattle.nuc_journal.specs.declared.entry.Entry.{Entry}
use Rattle.nuc_replica.specs.Remote.{Follows, IsRemote, RemoteState, forgotten, heard, with_entries}
use Rattle.nuc_step.specs.Calls.{MayBeTaken}
use Rattle.nuc_step.specs.Client.{ClientState}
use Rattle.nuc_step.specs.Laws.{StepsKeepClients}
use Rattle.nuc_step.specs.Sound.{AreNumbered, FitsStage, FitsTaken, IsClient, IsFlight, MayFly, known_to}
use Rattle.nuc_step.specs.Steps.{CanLand, after_fly, after_pull, after_restart, caught_up_to, finished, landed, numbered, reason_of}
use Rattle.nuc_step.specs.declared.reason.Reason.TheVariants as reason
use Rattle.nuc_step.proofs.Flying.{all_staged, all_without, flight_in, numbered_staged, numbered_without, numbers_from, planned_numbers}
use Rattle.nuc_step.proofs.Kept.{caught_up_keeps, entries_keep, heard_keeps, known_entries, known_heard, later_flight, later_taken, may_numbered, news_known}
use Rattle.nuc_step.proofs.LocalAfter.{local_sound}
use Rattle.nuc_step.proofs.Outcomes.{Came, came_of}
use Rattle.nuc_step.proofs.Outcomes.Came.{applied, dropped, nothing}

-- OPERATIONS FLY
numbered_more : (fs gs : List Flight) (next last : ℕ) → next ≤ last → AreNumbered fs next → All (λ g. next ≤ g.op.number) gs → AreNumbered gs last
    → AreNumbered (fs ++ gs) last
numbered_more [] gs next last within are from more = more
numbered_more (f ∷ fs) gs next last within are from more = (
  omega (arith, are.0, within),
  All-append (λ g. f.op.number < g.op.number) fs gs are.1 (All-weaker (λ g. next ≤ g.op.number) (λ g. f.op.number < g.op.number) (λ g above. omega (arith, above, are.0)) gs from),
  numbered_more fs gs next last within are.2 from more,
)

fly_keeps : (c : ClientState) → IsClient c → (ops : List Op) → All MayFly ops → IsClient (after_fly ops c)
fly_keeps c is ops may =
    let numbers = numbered c.next_op c.remote ops in
    let fly : All (IsFlight (known_to c.remote)) (map as_planned numbers) = All-map (IsFlight (known_to c.remote)) as_planned numbers
    (All-weaker MayFly (λ op. IsFlight (known_to c.remote) (as_planned op)) (λ op may. record { op = may; stage = tt }) numbers (may_numbered c.next_op c.remote ops may)) in
    let from : All (λ f. c.next_op ≤ f.op.number) (map as_planned numbers) =
    All-map (λ f. c.next_op ≤ f.op.number) as_planned numbers (numbers_from c.next_op c.remote ops) in
    record {
      remote = is.remote;
      local = is.local;
      synced = is.synced;
      flights = All-append (IsFlight (known_to c.remote)) c.flights (map as_planned numbers) is.flights fly;
      numbers = numbered_more c.flights (map as_planned numbers) c.next_op (c.next_op + length ops) (omega arith) is.numbers from
          (planned_numbers c.next_op c.remote ops (c.next_op + length ops) (omega arith));
    }

-- ONE COMES TO ANOTHER STAGE, where more may be known of Remote
staged_keeps : (c : ClientState) (remote : RemoteState) (n : ℕ) (stage : Stage) → IsClient c → IsRemote remote → known_to c.remote ≤ known_to remote
    → ((f : Flight) → flight_of n c.flights ≡ Some f → FitsStage (known_to remote) f.op stage)
    → IsClient (record c { remote = remote; flights = staged n stage c.flights })
staged_keeps c remote n stage is sound later fits = record {
  remote = sound;
  local = is.local;
  synced = is.synced;
  flights = all_staged (IsFlight (known_to remote)) n stage c.flights (λ f there it. record { op = it.op; stage = fits f there })
      (All-weaker (IsFlight (known_to c.remote)) (IsFlight (known_to remote)) (later_flight (known_to c.remote) (known_to remote) later) c.flights is.flights);
  numbers = numbered_staged n stage c.flights c.next_op is.numbers;
}

taken_fits : (remote : RemoteState) (news : List Entry) (t : Taken) (o : Option Flight) (f : Flight) → IfSome o (MayBeTaken remote news t) → o ≡ Some f
    → FitsTaken (known_to (heard news remote)) f.op t
taken_fits remote news t o f fits is =
    later_taken (remote.cursor + length news) (known_to (heard news remote)) f.op t (news_known news remote)
    (subst (λ p. IfSome p (MayBeTaken remote news t)) is fits)

-- REMOTE MOVES ON
pull_keeps : (c : ClientState) → IsClient c → (page : List Entry) → Follows c.remote page → IsClient (after_pull page c)
pull_keeps c is page follows = record {
  remote = entries_keep c.remote page is.remote follows;
  local = is.local;
  synced = is.synced;
  flights = All-weaker (IsFlight (known_to c.remote)) (IsFlight (known_to (with_entries c.remote page)))
      (later_flight (known_to c.remote) (known_to (with_entries c.remote page)) (known_entries c.remote page)) c.flights is.flights;
  numbers = is.numbers;
}

restart_keeps : (c : ClientState) → IsClient c → IsClient (after_restart c)
restart_keeps c is = record {
  remote = record { form = is.remote.form; revisions = is.remote.revisions; ahead = tt };
  local = is.local;
  synced = is.synced;
  flights = All-nil (IsFlight (known_to (forgotten c.remote)));
  numbers = tt;
}

-- A DONE
remote_caught_up : (t : Taken) (remote : RemoteState) → IsRemote remote → IsRemote (caught_up_to t remote)
remote_caught_up (came.Folder o) remote is = is
remote_caught_up (came.Accepted rev) remote is = caught_up_keeps rev remote is
remote_caught_up (came.Refused why) remote is = is

known_caught_up : (t : Taken) (remote : RemoteState) → known_to remote ≤ known_to (caught_up_to t remote)
known_caught_up (came.Folder o) remote = omega arith
known_caught_up (came.Accepted rev) remote = known_entries remote _
known_caught_up (came.Refused why) remote = omega arith

finished_keeps : (n : ℕ) (t : Taken) (c : ClientState) → IsClient c → IsClient (finished n t c)
finished_keeps n t c is = record {
  remote = remote_caught_up t c.remote is.remote;
  local = is.local;
  synced = is.synced;
  flights = All-weaker (IsFlight (known_to c.remote)) (IsFlight (known_to (caught_up_to t c.remote)))
      (later_flight (known_to c.remote) (known_to (caught_up_to t c.remote)) (known_caught_up t c.remote)) (without n c.flights)
      (all_without (IsFlight (known_to c.remote)) n c.flights is.flights);
  numbers = numbered_without n c.flights c.next_op is.numbers;
}

succeeds : (o : Outcome) → reason_of (came.Folder o) ≡ None → is_success o ≡ true
succeeds o none = elim (is_success o) as (λ b. cond b None (Some (reason.Folder o)) ≡ None → b ≡ true) [
  | true ↦ λ _. refl
  | false ↦ λ not. cc
] none

landed_keeps : (known : ℕ) (op : Op) (t : Taken) (c : ClientState) → IsClient c → MayFly op → FitsTaken known op t → reason_of t ≡ None → CanLand c op t
    → IsClient (landed op t c)
landed_keeps known op (came.Folder o) c is may fits none can = record {
  remote = is.remote;
  local = local_sound op o c.local is.local may fits (succeeds o none) can.0;
  synced = tree_after c.synced op.id.0 op.synced is.synced may.id may.fits.synced can.1.legal;
  flights = is.flights;
  numbers = is.numbers;
}
landed_keeps known op (came.Accepted rev) c is may fits none can = record {
  remote = is.remote;
  local = is.local;
  synced = tree_after c.synced op.id.0 op.synced is.synced may.id may.fits.synced can.legal;
  flights = is.flights;
  numbers = is.numbers;
}
landed_keeps known op (came.Refused why) c is may fits none can = is

done_of : (n : ℕ) (c d : ClientState) (o : Option Flight) → flight_of n c.flights ≡ o → IsClient c → Came n c d o → IsClient d
done_of n c d o there is (nothing p same) = subst IsClient (sym same) is
done_of n c d o there is (dropped flight t stage end) = subst IsClient (sym end) (finished_keeps n t c is)
done_of n c d o there is (applied flight t stage why can end) =
    let it = flight_in (IsFlight (known_to c.remote)) n c.flights flight there is.flights in
    subst IsClient (sym end)
    (landed_keeps (known_to c.remote) flight.op t (finished n t c) (finished_keeps n t c is) it.op (subst (FitsStage (known_to c.remote) flight.op) stage it.stage) why can)

-- EACH STEP
pub steps_keep : StepsKeepClients
steps_keep c is = record {
  fly = fly_keeps c is;
  start = λ n. staged_keeps c c.remote n started is is.remote (omega arith) (λ f there. tt);
  take = λ n t news follows fits. staged_keeps c (heard news c.remote) n (taken t) is (heard_keeps news c.remote is.remote follows) (known_heard news c.remote)
      (λ f there. taken_fits c.remote news t (flight_of n c.flights) f fits there);
  done = λ n d e f r ends. done_of n c d (flight_of n c.flights) refl is (came_of n c d e f r ends);
  pull = pull_keeps c is;
  restart = restart_keeps c is;
}
