use Rattle.std.proofs.Common.{[]}
use Rattle.std.specs.Option.{option_copied, unwrap_or}
use Rattle.std.specs.Prelude.{is_some}
use Rattle.nuc_filework.specs.Calls.{calls_of}
use Rattle.nuc_world.specs.Parts.{folder_view}
use Rattle.nuc_world.proofs.Ran.{runs_sound}
use Rattle.nuc_world.proofs.Folders.{folder_keeps}
use Rattle.nuc_world.proofs.folder_work.run.Goals as goal

pub returns-clause-fits : goal.returns-clause-fits
returns-clause-fits c other =
    (runs_sound c.args.keys.now.now (unwrap_or (option_copied c.args.bytes) []) c.args.op.now (folder_view c.args.folder.now) c.run_op.result
    (folder_view c.run_op.new.folder) other c.args.seen.now c.args.wanted.now (is_some c.args.bytes) c.run_op.ensures).fits

pub returns-clause-keeps : goal.returns-clause-keeps
returns-clause-keeps c =
    folder_keeps c.args.keys.now.now (unwrap_or (option_copied c.args.bytes) [])
    (calls_of c.args.keys.now.now c.args.op.now c.args.seen.now c.args.wanted.now (is_some c.args.bytes))
    c.args.folder.now c.run_op.result c.run_op.new.folder c.run_op.ensures
