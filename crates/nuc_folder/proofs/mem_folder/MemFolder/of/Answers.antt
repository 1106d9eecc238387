use Rattle.std.proofs.Common.{◌<◌, ◌∙◌, arith}
use Rattle.nuc_folder.proofs.Rounds.{keyed_empty, keyed_rows}
use Rattle.nuc_folder.proofs.mem_folder.MemFolder.of.Goals as goal

pub invariant_of-folder : goal.invariant_of-folder
invariant_of-folder c =
    let some : 0 < c.args.next_key = omega arith in (
      keyed_rows c.args.next_key c.args.rows.items c.put_all.new.shelf.now c.folder.inside.notices.now c.put_all.ensures.shelf some c.in_ok-put_all.ensures.ok,
      keyed_empty c.folder.inside.settled_key c.put_all.new.shelf.settled c.folder.inside.notices.settled (c.put_all.ensures.settled ∙ c.new-shelf.ensures.settled) c.folder.invariant.1.some,
    )
