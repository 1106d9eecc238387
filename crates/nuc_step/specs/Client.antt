-- A client, as a caller sees it.
use Rattle.std.specs.Prelude.{ℕ, List, refl}
use Rattle.std.specs.Coded.{Coded, code_by, coded×, coded_ℕ, coded_list}
use Rattle.nuc_base.specs.Codes.{nodes_code}
use Rattle.nuc_base.specs.Trees.{Nodes}
use Rattle.nuc_flights.specs.Codes.{flight_code}
use Rattle.nuc_flights.specs.Flights.{Flight, FlightsState}
use Rattle.nuc_replica.specs.Local.{LocalState, LocalStates, local_code}
use Rattle.nuc_replica.specs.Remote.{RemoteState, RemoteStates, remote_code}
use Rattle.nuc_step.specs.Held.{HeldState, held_code}
use Rattle.nuc_step.specs.declared.counts.Counts.{Counts}
use Rattle.nuc_undo.specs.State.{UndoState, settled_of}

-- its three trees, with what belongs to each; its operations in flight; how often Local has changed, and the number of the
-- next operation
pub record ClientState : Type 0 where
  pub remote : RemoteState
  pub local : LocalState
  pub synced : Nodes
  pub flights : List Flight
  pub changes : ℕ
  pub next_op : ℕ

-- what there is now, and what `back` leads to; beside it the listing that is held
pub record ClientStates : Type 0 where
  pub now : ClientState
  pub settled : ClientState
  pub listing : HeldState

abbrev pub client_code : Coded ClientState
client_code = code_by (RemoteState × (LocalState × (Nodes × (List Flight × (ℕ × ℕ)))))
    (coded× remote_code (coded× local_code (coded× nodes_code (coded× (coded_list flight_code) (coded× coded_ℕ coded_ℕ)))))
    (λ c. (c.remote, (c.local, (c.synced, (c.flights, (c.changes, c.next_op))))))
    (λ t. record { remote = t.0; local = t.1.0; synced = t.1.1.0; flights = t.1.1.1.0; changes = t.1.1.1.1.0; next_op = t.1.1.1.1.1 })
    (λ _. refl)

abbrev pub clients_code : Coded ClientStates
clients_code = code_by (ClientState × (ClientState × HeldState)) (coded× client_code (coded× client_code held_code))
    (λ c. (c.now, (c.settled, c.listing))) (λ t. record { now = t.0; settled = t.1.0; listing = t.1.1 }) (λ _. refl)

-- what the parts of a client make together
abbrev pub state_now : RemoteStates → LocalStates → UndoState → FlightsState → Counts → ClientState
state_now remote local synced flights counts = record {
  remote = remote.now;
  local = local.now;
  synced = synced.now;
  flights = flights.now;
  changes = counts.changes;
  next_op = counts.next_op;
}

abbrev pub state_then : RemoteStates → LocalStates → UndoState → FlightsState → Counts → ClientState
state_then remote local synced flights counts = record {
  remote = remote.settled;
  local = local.settled;
  synced = settled_of synced;
  flights = flights.settled;
  changes = counts.changes;
  next_op = counts.next_op;
}
