use Rattle.std.specs.Prelude.{All}
use Rattle.std.proofs.Common.{subst, sym}
use Rattle.nuc_step.specs.Planning.{IsPlanOf, Planning}
use Rattle.nuc_step.specs.Sound.{MayFly}
use Rattle.nuc_step.proofs.Notes.{batch_may, book_can}
use Rattle.nuc_step.proofs.client.Client.plan.Goals as goal

pub note-requires-clause-can : goal.note-requires-clause-can
note-requires-clause-can g c =
    let p : Planning = record { client = c.args.self.now.now; recorded = c.args.edits.now.now; next_id = c.args.ids.now.next_id } in
    book_can p c.in-Booked.op c.requires (subst (IsPlanOf p) c.in-Booked.is c.in_ok-due.ensures)

pub launch_batch-requires-clause-may : goal.launch_batch-requires-clause-may
launch_batch-requires-clause-may g c =
    let p : Planning = record { client = c.args.self.now.now; recorded = c.args.edits.now.now; next_id = c.args.ids.now.next_id } in
    subst (All MayFly) (sym c.as_slice.ensures) (batch_may p c.in-Batch.ops c.requires (subst (IsPlanOf p) c.in-Batch.is c.in_ok-due.ensures))
