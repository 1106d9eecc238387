use Rattle.std.proofs.Common.{◌∙◌}
use Rattle.nuc_folder.specs.Memory.{MemState}
use Rattle.nuc_folder.proofs.UserKeys.{keyed_after, keyed_at}
use Rattle.nuc_folder.proofs.mem_folder.MemFolder.change_once.Goals as goal

pub invariant_of-self-in-Ok : goal.invariant_of-self-in-Ok
invariant_of-self-in-Ok c =
    let s : MemState = record { held = c.self.inside.shelf.now; next = c.self.inside.next_key; pending = c.self.inside.notices.now } in (
      keyed_after c.args.edit.now s c.in-Ok.notice c.change.new.shelf.now c.key_after-after.result c.push_reserved.new.self.now c.self.invariant.0 c.change.ensures.shelf c.in-Ok.ensures.ok c.key_after-after.ensures,
      keyed_at c.self.inside.shelf.settled c.change.new.shelf.settled c.self.inside.settled_key c.self.inside.notices.settled c.push_reserved.new.self.settled c.change.ensures.settled c.self.invariant.1,
    )
