use Rattle.std.proofs.Common.{sym, subst}
use Rattle.nuc_hash.specs.Content.{content_of}
use Rattle.nuc_world.specs.Committing.{KeepsRecorded}
use Rattle.nuc_world.specs.Parts.{shared_now}
use Rattle.nuc_world.specs.Takes.{is_recorded}
use Rattle.nuc_world.proofs.Uploads.{as_read}
use Rattle.nuc_world.proofs.committing.commit_read.Goals as goal

pub returns-then-branch-clause-ok : goal.returns-then-branch-clause-ok
returns-then-branch-clause-ok g c m =
    let bytes = c.in-Some.bytes.now in
    let recorded = is_recorded c.args.shared.now.edits.now.edits (content_of bytes).hash c.args.commit.now.value in
    let kept = subst (λ b. KeepsRecorded bytes recorded (shared_now c.args.shared.now) b (shared_now c.keep_recorded.new.shared)) c.if-branch.true c.in_ok-keep_recorded.ensures.ok in
    as_read c.args.log.now c.args.by c.args.number c.args.commit.now c.judge.result _ _ bytes (shared_now c.keep_recorded.new.shared)
    (sym c.in-Some.ensures) kept.0 kept.1 (c.judge.ensures.ok m)
