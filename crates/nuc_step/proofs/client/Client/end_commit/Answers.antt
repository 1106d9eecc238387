use Rattle.std.proofs.Common.{refl, arith}
use Rattle.nuc_flights.specs.declared.taken.Taken.TheVariants as came
use Rattle.nuc_step.specs.Sound.{known_to}
use Rattle.nuc_step.proofs.Ends.{ending_fits, ending_inside, ending_laid, ending_may, kept_ended}
use Rattle.nuc_step.proofs.Kept.{kept_caught_up, same_one}
use Rattle.nuc_step.proofs.client.Client.end_commit.Goals as goal

pub catch_up-requires : goal.catch_up-requires
catch_up-requires g c =
    let inside = c.self.inside in
    let it = ending_inside _ _ c.args.number (came.Accepted c.args.rev) c.in-Some.op.now c.self.view_is c.requires c.in-Some.ensures in
    ending_fits (known_to inside.remote.now) c.args.number inside.flights.now (came.Accepted c.args.rev) c.in-Some.op.now c.self.invariant.now.flights it

pub land_commit-landed-requires-clause-may : goal.land_commit-landed-requires-clause-may
land_commit-landed-requires-clause-may g c =
    let inside = c.self.inside in
    let it = ending_inside _ _ c.args.number (came.Accepted c.args.rev) c.in-Some.op.now c.self.view_is c.requires c.in-Some.ensures in
    ending_may (known_to inside.remote.now) c.args.number inside.flights.now (came.Accepted c.args.rev) c.in-Some.op.now c.self.invariant.now.flights it

pub land_commit-landed-requires-clause-laid : goal.land_commit-landed-requires-clause-laid
land_commit-landed-requires-clause-laid g c =
    let inside = c.self.inside in
    let it = ending_inside _ _ c.args.number (came.Accepted c.args.rev) c.in-Some.op.now c.self.view_is c.requires c.in-Some.ensures in
    let both = ending_laid inside.local.laid inside.synced.laid c.args.number inside.flights.now (came.Accepted c.args.rev) c.in-Some.op.now c.self.invariant.laid it in
    both.1

pub invariant_of-self : goal.invariant_of-self
invariant_of-self g c =
    let inside = c.self.inside in
    let it = ending_inside _ _ c.args.number (came.Accepted c.args.rev) c.in-Some.op.now c.self.view_is c.requires c.in-Some.ensures in
    kept_ended c.catch_up.new.self inside.local inside.local inside.synced c.land_commit-landed.new.synced inside.flights c.finish.new.self inside.counts inside.counts inside.settled_counts
    c.args.number (came.Accepted c.args.rev) c.in-Some.op.now c.finish.result it c.finish.ensures.finished c.finish.ensures.settled
    c.trees_are_sound.ensures.local (same_one c.in-Some.op.now.number inside.local) c.trees_are_sound.ensures.synced c.land_commit-landed.ensures.changed refl (omega arith)
    (kept_caught_up inside.remote c.catch_up.new.self inside.local inside.synced inside.flights inside.counts inside.settled_counts c.args.rev
    c.catch_up.ensures.now c.catch_up.ensures.settled c.self.invariant)
