-- A Done keeps to the kinds of the keys.
use Rattle.std.proofs.Common.{◌≡◌, ℕ, Option, refl, sym, subst}
use Rattle.nuc_edits.specs.Edits.{Recorded}
use Rattle.nuc_flights.specs.Flights.{Flight, flight_of}
use Rattle.nuc_flights.specs.declared.taken.Taken.{Taken}
use Rattle.nuc_flights.specs.declared.taken.Taken.TheVariants as came
use Rattle.nuc_step.specs.Client.{ClientState}
use Rattle.nuc_step.specs.Sound.{IsClient, IsFlight, known_to}
use Rattle.nuc_step.specs.Steps.{CanLand, IsDone, finished, landed}
use Rattle.nuc_step.specs.declared.reply.DoneReply.{DoneReply}
use Rattle.nuc_step.proofs.Outcomes.{Came, came_of}
use Rattle.nuc_step.proofs.Outcomes.Came.{applied, dropped, nothing}
use Rattle.nuc_fit.proofs.KindsForm.{IsFlightOf, IsStageOf, IsTakenOf, Kinds}
use Rattle.nuc_fit.proofs.KindsLocal.{landed_named}
use Rattle.nuc_fit.proofs.KindsMember.{OfClient, all_without, flight_all}

module _ (kinds : Kinds) (n : ℕ) (c : ClientState) (client : IsClient c) (was : OfClient kinds c) where
  finished_of : (t : Taken) → OfClient kinds (finished n t c)
  finished_of t = record { local = was.local; flights = all_without (IsFlightOf kinds) n c.flights was.flights }

  -- what is written in Local is of the kind of its key
  landed_of : (f : Flight) (t : Taken) → IsFlight (known_to c.remote) f → IsFlightOf kinds f → IsTakenOf kinds f.op.local t → CanLand (finished n t c) f.op t
      → OfClient kinds (landed f.op t (finished n t c))
  landed_of f (came.Folder o) is of made can = record {
    local = landed_named kinds c.local client.local.follow was.local f.op o of.copy made is.op.other can.0;
    flights = all_without (IsFlightOf kinds) n c.flights was.flights;
  }
  landed_of f (came.Accepted rev) is of made can = record { local = was.local; flights = all_without (IsFlightOf kinds) n c.flights was.flights }
  landed_of f (came.Refused why) is of made can = absurd can

  came_so : (d : ClientState) (o : Option Flight) → flight_of n c.flights ≡ o → Came n c d o → OfClient kinds d
  came_so d o there (nothing p same) = subst (OfClient kinds) (sym same) was
  came_so d o there (dropped f t stage same) = subst (OfClient kinds) (sym same) (finished_of t)
  came_so d o there (applied f t stage why can same) =
      let of = flight_all (IsFlightOf kinds) n c.flights f there was.flights in
      subst (OfClient kinds) (sym same)
      (landed_of f t (flight_all (IsFlight (known_to c.remote)) n c.flights f there client.flights) of (subst (IsStageOf kinds f.op.local) stage of.stage) can)

  pub done_of : (d : ClientState) (e f : Recorded) (r : DoneReply) → IsDone n c e r d f → OfClient kinds d
  done_of d e f r ends = came_so d (flight_of n c.flights) refl (came_of n c d e f r ends)
