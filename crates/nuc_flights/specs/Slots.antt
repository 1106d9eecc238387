-- How the flights are kept: a slot for each, in which it stays until the next settling though it is done.
use Rattle.std.specs.Prelude.{◌≡◌, ◌==◌, ◌&&◌, ℕ, suc, Bool, true, false, List, ◌∷◌, Option, None, Some}
use Rattle.std.specs.List.{filter_map}
use Rattle.nuc_class.specs.declared.op.Op.{Op}
use Rattle.nuc_flights.specs.Flights.{Flight, Stage, planned, started, taken}
use Rattle.nuc_flights.specs.declared.taken.Taken.{Taken}
use Rattle.nuc_flights.specs.declared.slot.Level.{Level}
use Rattle.nuc_flights.specs.declared.slot.Level.TheVariants as level
use Rattle.nuc_flights.specs.declared.slot.Slot.{Slot}

-- the stage at a level, none where the operation isn't in flight
abbrev pub stage_at : Level → Option Taken → Option Stage
stage_at level.Away came = None
stage_at level.Planned came = Some planned
stage_at level.Started came = Some started
stage_at level.Taken (Some came) = Some (taken came)
stage_at level.Taken None = None

abbrev pub flight_at : Op → Option Stage → Option Flight
flight_at op None = None
flight_at op (Some stage) = Some (record { op = op; stage = stage })

abbrev pub flight_now : Slot → Option Flight
flight_now s = flight_at s.op (stage_at s.at s.came)

abbrev pub flight_was : Slot → Option Flight
flight_was s = flight_at s.op (stage_at s.was s.came)

abbrev pub flights_now : List Slot → List Flight
flights_now slots = filter_map flight_now slots

abbrev pub flights_were : List Slot → List Flight
flights_were slots = filter_map flight_was slots

-- a level that was reached before the operation was taken
abbrev pub IsEarly : Level → Type 0
IsEarly level.Away = Unit {0}
IsEarly level.Planned = Unit {0}
IsEarly level.Started = Unit {0}
IsEarly level.Taken = ⊥

-- what was taken has what came of it
abbrev pub HasOutcome : Level → Option Taken → Type 0
HasOutcome level.Taken (Some came) = Unit {0}
HasOutcome level.Taken None = ⊥
HasOutcome _ came = Unit {0}

-- where it is planned or started now, it hadn't been taken then
abbrev pub CameBefore : Level → Level → Type 0
CameBefore was level.Planned = IsEarly was
CameBefore was level.Started = IsEarly was
CameBefore was level.Away = Unit {0}
CameBefore was level.Taken = Unit {0}

pub record IsSound (s : Slot) : Type 0 where
  pub now : HasOutcome s.at s.came
  pub then : HasOutcome s.was s.came
  pub order : CameBefore s.was s.at

abbrev pub is_flying : Level → Bool
is_flying level.Away = false
is_flying level.Planned = true
is_flying level.Started = true
is_flying level.Taken = true

-- it is in flight under this number
abbrev pub flies : ℕ → Slot → Bool
flies n s = is_flying s.at && (s.op.number == n)

-- the first slot in flight under the number, with the ones before it
pub data Finds (n : ℕ) : List Slot → ℕ → Slot → Type 0 where
  here : (s : Slot) (ss : List Slot) → flies n s ≡ true → Finds n (s ∷ ss) 0 s
  there : (s t : Slot) (ss : List Slot) (i : ℕ) → flies n s ≡ false → Finds n ss i t → Finds n (s ∷ ss) (suc i) t

-- the slot of an operation that is new
abbrev pub planned_slot : Op → Slot
planned_slot op = record { op = op; at = level.Planned; was = level.Away; came = None }

-- what settling, going back and forgetting make of a slot
abbrev pub settled_slot : Slot → Slot
settled_slot s = record s { was = s.at }

abbrev pub back_slot : Slot → Slot
back_slot s = record s { at = s.was }

abbrev pub away_slot : Slot → Slot
away_slot s = record s { at = level.Away }

abbrev pub is_kept : Slot → Bool
is_kept s = is_flying s.at
