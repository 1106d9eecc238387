use Rattle.std.proofs.Common.{◌≡◌, ◌≢◌, sym}
use denote.Enum.Bare.{same_true, true_same}
use Rattle.nuc_class.specs.contracts.op.Verb.{the_type}
use Rattle.nuc_class.specs.declared.op.Verb.TheVariants as verb
use Rattle.nuc_step.specs.Planning.{Planning}
use Rattle.nuc_step.proofs.Notes.{comes, mend_can}
use Rattle.nuc_step.proofs.client.Client.mend_at_once.Goals as goal

pub adopt-requires-clause-comes : goal.adopt-requires-clause-comes
adopt-requires-clause-comes g c =
    let p : Planning = record { client = c.args.self.now.now; recorded = c.args.edits.now.now; next_id = c.args.next_id } in
    let same : c.args.op.verb ≡ verb.Adopt = same_true the_type tt c.args.op.verb verb.Adopt (sym c.if-eq.ensures) in
    comes p c.args.op c.requires.fit c.requires.plan same

pub note-requires-clause-can : goal.note-requires-clause-can
note-requires-clause-can g c =
    let p : Planning = record { client = c.args.self.now.now; recorded = c.args.edits.now.now; next_id = c.args.next_id } in
    let other : c.args.op.verb ≢ verb.Adopt = λ e. let yes = true_same the_type c.args.op.verb verb.Adopt e in let no = c.if-eq.ensures in cc in
    mend_can p c.args.op c.requires.fit c.requires.plan c.requires.nothing other
