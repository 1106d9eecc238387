-- The operations in flight, as a caller sees them.
use Rattle.std.specs.Prelude.{◌==◌, ℕ, cond, List, [], ◌∷◌, Option, None, Some, IsSomeAnd}
use Rattle.nuc_class.specs.declared.op.Op.{Op}
use Rattle.nuc_flights.specs.declared.taken.Taken.{Taken}

-- how far an operation has come; one that was taken has what came of its outside change
pub data Stage : Type 0 where
  planned : Stage
  started : Stage
  taken : Taken → Stage

pub record Flight : Type 0 where
  pub op : Op
  pub stage : Stage

-- those that are in flight, in the order of their planning, and those that were when they were last settled
pub record FlightsState : Type 0 where
  pub now : List Flight
  pub settled : List Flight

-- the first with this number
abbrev pub flight_of : ℕ → List Flight → Option Flight
flight_of n [] = None
flight_of n (f ∷ fs) = cond (f.op.number == n) (Some f) (flight_of n fs)

-- it has come to another stage
abbrev pub staged : ℕ → Stage → List Flight → List Flight
staged n stage [] = []
staged n stage (f ∷ fs) = cond (f.op.number == n) (record f { stage = stage } ∷ fs) (f ∷ staged n stage fs)

-- it is in flight no more
abbrev pub without : ℕ → List Flight → List Flight
without n [] = []
without n (f ∷ fs) = cond (f.op.number == n) fs (f ∷ without n fs)

-- an operation that was only planned
abbrev pub as_planned : Op → Flight
as_planned op = record { op = op; stage = planned }

-- whether the one with this number has come just so far
abbrev pub IsPlanned : Stage → Type 0
IsPlanned planned = Unit {0}
IsPlanned _ = ⊥

abbrev pub IsStarted : Stage → Type 0
IsStarted started = Unit {0}
IsStarted _ = ⊥

abbrev pub StandsAt : ℕ → (Stage → Type 0) → List Flight → Type 0
StandsAt n At fs = IsSomeAnd (flight_of n fs) (λ f. At f.stage)

abbrev pub IsTaken : Stage → Type 0
IsTaken (taken came) = Unit {0}
IsTaken _ = ⊥

-- what came of its outside change, where it was taken
abbrev pub taken_at : Stage → Option Taken
taken_at planned = None
taken_at started = None
taken_at (taken came) = Some came

abbrev pub taken_of : Option Flight → Option Taken
taken_of None = None
taken_of (Some f) = taken_at f.stage
