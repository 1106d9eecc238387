use Rattle.std.proofs.Common.{subst}
use Rattle.nuc_replica.specs.Local.{IsLocal}
use Rattle.nuc_step.specs.Client.{ClientStates}
use Rattle.nuc_step.specs.Watching.{Watching}
use Rattle.nuc_step.proofs.Versions.{good_can_take}
use Rattle.nuc_step.proofs.client.Client.scan.Goals as goal

pub take_over-requires-clause-can : goal.take_over-requires-clause-can
take_over-requires-clause-can g c =
    let w : Watching = record { client = c.args.self.now.now; recorded = c.args.edits.now.now; ids = c.args.ids.now } in
    let local = subst (λ (s : ClientStates). IsLocal s.now.local) c.self.view_is c.self.invariant.now.local in
    good_can_take w c.args.self.now.listing.now c.in_ok-read_listing.field-0 c.in-Good.all local c.requires c.in-Good.is c.in_ok-read_listing.ensures
