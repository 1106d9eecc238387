use Rattle.nuc_world.proofs.Uploads.{as_other, as_upload}
use Rattle.nuc_world.proofs.committing.make_commit.Goals as goal

pub returns-then-is_upload-clause-ok : goal.returns-then-is_upload-clause-ok
returns-then-is_upload-clause-ok g c m = as_upload c.args.log.now c.args.by c.args.number c.args.commit.now c.args.is_upload c.commit_read.result _ _ c.if-is_upload.true (c.commit_read.ensures.ok m)

pub returns-else-is_upload-clause-ok : goal.returns-else-is_upload-clause-ok
returns-else-is_upload-clause-ok g c m = as_other c.args.log.now c.args.by c.args.number c.args.commit.now c.args.is_upload c.judge.result _ _ c.if-is_upload.false (c.judge.ensures.ok m)
