use Rattle.nuc_folder.proofs.Keyed.{keyed_held, move_below}
use Rattle.nuc_folder.proofs.mem_calls.MemFolderFolder.move_to.Goals as goal

pub returns-clause-form : goal.returns-clause-form
returns-clause-form c = (c.move_to.ensures.shelf, move_below _ _ _ _ _ _ _ c.self.invariant.0.below c.move_to.ensures.answers)

pub invariant_of-self : goal.invariant_of-self
invariant_of-self c =
    let below = move_below _ _ _ _ _ _ _ c.self.invariant.0.below c.move_to.ensures.answers in
    (record { shelf = c.move_to.ensures.shelf; below = below; some = c.self.invariant.0.some }, keyed_held _ _ c.move_to.ensures.settled c.self.invariant.1)
