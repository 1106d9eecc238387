use Rattle.nuc_folder.proofs.UserKeys.{keyed_at, keyed_removed}
use Rattle.nuc_folder.proofs.mem_folder.MemFolder.user.Goals as goal

pub invariant_of-self : goal.invariant_of-self
invariant_of-self c = (
  keyed_removed c.remove-done.result c.self.inside.shelf.now c.remove-done.new.shelf.now _ c.self.inside.next_key c.self.inside.notices.now c.remove-done.new.notices.now c.remove-done.ensures.ok c.remove-done.ensures.err c.remove-done.ensures.shelf c.self.invariant.0,
  keyed_at c.self.inside.shelf.settled c.remove-done.new.shelf.settled c.self.inside.settled_key c.self.inside.notices.settled c.remove-done.new.notices.settled c.remove-done.ensures.settled c.self.invariant.1,
)
