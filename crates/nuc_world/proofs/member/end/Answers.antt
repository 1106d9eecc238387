use Rattle.nuc_flights.specs.Flights.{Flight, flight_of}
use Rattle.nuc_step.specs.Sound.{FitsOutcome}
use Rattle.nuc_world.proofs.Nothing.{if_some, nothing_follows}
use Rattle.nuc_world.proofs.member.end.Goals as goal

pub take-requires-clause-news : goal.take-requires-clause-news
take-requires-clause-news g c = nothing_follows c.begin.new.client.now.remote

pub take-requires-clause-fits : goal.take-requires-clause-fits
take-requires-clause-fits g c = if_some (λ (f : Flight). FitsOutcome f.op c.args.outcome) (flight_of c.args.number c.begin.new.client.now.flights) (λ f. c.requires.fits f.op)
