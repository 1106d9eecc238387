-- The steps of a client bring it no names but those of what comes with them.
use Rattle.std.specs.Prelude.{All}
use Rattle.std.proofs.Common.{◌≡◌, ◌+◌, ◌-◌, ℕ, List, [], ◌∷◌, length, map, take, drop, Option, refl, sym, subst}
use Rattle.nuc_class.specs.declared.op.Op.{Op}
use Rattle.nuc_edits.specs.Edits.{Recorded}
use Rattle.nuc_flights.specs.Flights.{Flight, as_planned, flight_of, started, taken}
use Rattle.nuc_flights.specs.declared.taken.Taken.{Taken}
use Rattle.nuc_flights.specs.declared.taken.Taken.TheVariants as came
use Rattle.nuc_journal.specs.declared.entry.Entry.{Entry}
use Rattle.nuc_replica.specs.Remote.{RemoteState, heard, with_entries}
use Rattle.nuc_step.specs.Client.{ClientState}
use Rattle.nuc_step.specs.Steps.{IsDone, after_fly, after_pull, after_restart, after_start, after_take, base_of, caught_up_to, finished, is_split, landed, numbered}
use Rattle.nuc_step.specs.declared.reply.DoneReply.{DoneReply}
use Rattle.nuc_step.proofs.Outcomes.{Came, came_of}
use Rattle.nuc_step.proofs.Outcomes.Came.{applied, dropped, nothing}
use Rattle.nuc_fit.proofs.NamesForm.{NamedClient, NamedEntry, NamedOp, NamedRemote}
use Rattle.nuc_fit.proofs.NamesLists.{all_append, all_drop, all_first, all_front, all_none, all_rest, all_staged, all_take, all_without, flight_all}
use Rattle.nuc_fit.proofs.NamesTrees.{changed_named, entries_named, local_named}

abbrev InFlight : Flight → Type 0
InFlight f = NamedOp f.op

-- REMOTE
pulled : (r : RemoteState) (es : List Entry) → All NamedEntry es → NamedRemote r → NamedRemote (with_entries r es)
pulled r es all named = record {
  tree = entries_named r.tree es all named.tree;
  ahead = all_drop NamedEntry (length es) r.ahead named.ahead;
}

caught : (t : Taken) (r : RemoteState) → NamedRemote r → NamedRemote (caught_up_to t r)
caught (came.Folder o) r named = named
caught (came.Accepted rev) r named = pulled r (take (rev - r.cursor) r.ahead) (all_take NamedEntry (rev - r.cursor) r.ahead named.ahead) named
caught (came.Refused why) r named = named

told : (news : List Entry) (r : RemoteState) → All NamedEntry news → NamedRemote r → NamedRemote (heard news r)
told news r all named = record {
  tree = named.tree;
  ahead = all_append NamedEntry r.ahead (drop (length r.ahead) news) named.ahead (all_drop NamedEntry (length r.ahead) news all);
}

-- FLY
pub renumbered : (op : Op) (number base : ℕ) → NamedOp op → NamedOp (record op { number = number; base = base })
renumbered op number base named = record { remote = named.remote; local = named.local; synced = named.synced }

numbered_named : (n : ℕ) (remote : RemoteState) (ops : List Op) → All NamedOp ops → All InFlight (map as_planned (numbered n remote ops))
numbered_named n remote [] all = all_none InFlight
numbered_named n remote (op ∷ ops) all =
    all_front InFlight _ _ (renumbered op n (base_of op.effect remote op.id.0) (all_first NamedOp op ops all))
    (numbered_named (n + 1) remote ops (all_rest NamedOp op ops all))

module _ (c : ClientState) (named : NamedClient c) where
  pub fly_named : (ops : List Op) → All NamedOp ops → NamedClient (after_fly ops c)
  fly_named ops all = record {
    remote = named.remote;
    local = named.local;
    synced = named.synced;
    flights = all_append InFlight c.flights (map as_planned (numbered c.next_op c.remote ops)) named.flights (numbered_named c.next_op c.remote ops all);
  }

  -- PULL, START, TAKE, RESTART
  pub pull_named : (page : List Entry) → All NamedEntry page → NamedClient (after_pull page c)
  pull_named page all = record { remote = pulled c.remote page all named.remote; local = named.local; synced = named.synced; flights = named.flights }

  pub start_named : (n : ℕ) → NamedClient (after_start n c)
  start_named n = record {
    remote = named.remote;
    local = named.local;
    synced = named.synced;
    flights = all_staged InFlight n started (λ f its. its) c.flights named.flights;
  }

  pub take_named : (n : ℕ) (t : Taken) (news : List Entry) → All NamedEntry news → NamedClient (after_take n t news c)
  take_named n t news all = record {
    remote = told news c.remote all named.remote;
    local = named.local;
    synced = named.synced;
    flights = all_staged InFlight n (taken t) (λ f its. its) c.flights named.flights;
  }

  pub restart_named : NamedClient (after_restart c)
  restart_named = record {
    remote = record { tree = named.remote.tree; ahead = all_none NamedEntry };
    local = named.local;
    synced = named.synced;
    flights = all_none InFlight;
  }

  finished_named : (n : ℕ) (t : Taken) → NamedClient (finished n t c)
  finished_named n t = record {
    remote = caught t c.remote named.remote;
    local = named.local;
    synced = named.synced;
    flights = all_without InFlight n c.flights named.flights;
  }

-- WHAT WAS PLANNED is written
pub landed_named : (op : Op) (t : Taken) (c : ClientState) → NamedOp op → NamedClient c → NamedClient (landed op t c)
landed_named op (came.Folder o) c its named = record {
  remote = named.remote;
  local = local_named c.local.tree op (is_split op.verb) its.local named.local;
  synced = changed_named c.synced op.id.0 op.synced its.synced named.synced;
  flights = named.flights;
}
landed_named op (came.Accepted rev) c its named = record {
  remote = named.remote;
  local = named.local;
  synced = changed_named c.synced op.id.0 op.synced its.synced named.synced;
  flights = named.flights;
}
landed_named op (came.Refused why) c its named = named

-- DONE
module _ (c d : ClientState) (n : ℕ) (named : NamedClient c) where
  by_came : (o : Option Flight) → flight_of n c.flights ≡ o → Came n c d o → NamedClient d
  by_came o there (nothing p same) = subst NamedClient (sym same) named
  by_came o there (dropped flight t stage same) = subst NamedClient (sym same) (finished_named c named n t)
  by_came o there (applied flight t stage why can same) = subst NamedClient (sym same)
      (landed_named flight.op t (finished n t c) (flight_all InFlight n c.flights flight there named.flights) (finished_named c named n t))

  pub done_named : (e f : Recorded) (r : DoneReply) → IsDone n c e r d f → NamedClient d
  done_named e f r ends = by_came (flight_of n c.flights) refl (came_of n c d e f r ends)
