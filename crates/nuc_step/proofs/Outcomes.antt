-- What a client can be after a Done.
use Rattle.std.proofs.Common.{◌≡◌, ℕ, Option, None, Some, refl}
use Rattle.nuc_edits.specs.Edits.{Recorded}
use Rattle.nuc_flights.specs.Flights.{Flight, Stage, flight_of, planned, started, taken}
use Rattle.nuc_flights.specs.declared.taken.Taken.{Taken}
use Rattle.nuc_step.specs.Client.{ClientState}
use Rattle.nuc_step.specs.Steps.{CanLand, Ends, EndsAt, EndsOf, IsDone, NothingToEnd, finished, landed, reason_of}
use Rattle.nuc_step.specs.declared.reason.Reason.{Reason}
use Rattle.nuc_step.specs.declared.reply.DoneReply.{DoneReply}
use Rattle.nuc_step.specs.declared.reply.DoneReply.TheVariants as done

-- nothing was there to end; or the flight that was taken is in flight no more, and what it planned is written or isn't
pub data Came (n : ℕ) (c d : ClientState) : Option Flight → Type 0 where
  nothing : (o : Option Flight) → d ≡ c → Came n c d o
  dropped : (flight : Flight) (t : Taken) → flight.stage ≡ taken t → d ≡ finished n t c → Came n c d (Some flight)
  applied : (flight : Flight) (t : Taken) → flight.stage ≡ taken t → reason_of t ≡ None → CanLand (finished n t c) flight.op t → d ≡ landed flight.op t (finished n t c)
      → Came n c d (Some flight)

module _ (n : ℕ) (c d : ClientState) (e f : Recorded) where
  of_nothing : (o : Option Flight) (r : DoneReply) → NothingToEnd c e r d f → Came n c d o
  of_nothing o done.Applied ends = absurd ends
  of_nothing o done.Stale ends = absurd ends
  of_nothing o (done.Dropped w) ends = absurd ends
  of_nothing o done.NoSuchOp ends = nothing o ends.0

  of_taken : (flight : Flight) (t : Taken) (why : Option Reason) (r : DoneReply) → flight.stage ≡ taken t → reason_of t ≡ why → Ends n flight.op t why c e r d f
      → Came n c d (Some flight)
  of_taken flight t None done.Applied stage why ends = applied flight t stage why ends.0 ends.1
  of_taken flight t None done.Stale stage why ends = dropped flight t stage ends.1
  of_taken flight t None (done.Dropped w) stage why ends = absurd ends
  of_taken flight t None done.NoSuchOp stage why ends = absurd ends
  of_taken flight t (Some reason) done.Applied stage why ends = absurd ends
  of_taken flight t (Some reason) done.Stale stage why ends = absurd ends
  of_taken flight t (Some reason) (done.Dropped w) stage why ends = dropped flight t stage ends.1
  of_taken flight t (Some reason) done.NoSuchOp stage why ends = absurd ends

  of_stage : (flight : Flight) (stage : Stage) (r : DoneReply) → flight.stage ≡ stage → EndsAt n flight.op stage c e r d f → Came n c d (Some flight)
  of_stage flight planned r is ends = of_nothing (Some flight) r ends
  of_stage flight started r is ends = of_nothing (Some flight) r ends
  of_stage flight (taken t) r is ends = of_taken flight t (reason_of t) r is refl ends

  of_flight : (o : Option Flight) (r : DoneReply) → EndsOf n o c e r d f → Came n c d o
  of_flight None r ends = of_nothing None r ends
  of_flight (Some flight) r ends = of_stage flight flight.stage r refl ends

  pub came_of : (r : DoneReply) → IsDone n c e r d f → Came n c d (flight_of n c.flights)
  came_of r ends = of_flight (flight_of n c.flights) r ends
