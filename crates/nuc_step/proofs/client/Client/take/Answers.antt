use Rattle.std.proofs.Common.{IfSome, subst, sym}
use Rattle.nuc_flights.specs.Flights.{flight_of}
use Rattle.nuc_replica.specs.Remote.{Follows}
use Rattle.nuc_step.specs.Calls.{MayBeTaken}
use Rattle.nuc_step.specs.Client.{ClientStates}
use Rattle.nuc_step.proofs.Kept.{kept_taken}
use Rattle.nuc_step.proofs.client.Client.take.Goals as goal

pub invariant_of-self : goal.invariant_of-self
invariant_of-self g c =
    let inside = c.self.inside in
    let news = c.args.news.now in
    let follows = subst (λ (s : ClientStates). Follows s.now.remote news) (sym c.self.view_is) c.requires.news in
    let fits = subst (λ (s : ClientStates). IfSome (flight_of c.args.number s.now.flights) (MayBeTaken s.now.remote news c.args.taken)) (sym c.self.view_is) c.requires.fits in
    kept_taken inside.remote c.hear.new.self inside.local inside.synced inside.flights c.take.new.self inside.counts inside.settled_counts c.args.number c.args.taken news c.take.result
    c.in-Ok.ensures.ok c.hear.ensures.settled follows fits c.take.ensures.taken c.take.ensures.settled c.self.invariant
