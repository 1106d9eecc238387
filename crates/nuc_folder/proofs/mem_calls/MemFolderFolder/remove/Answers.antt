use Rattle.nuc_folder.proofs.Keyed.{keyed_held, remove_below}
use Rattle.nuc_folder.proofs.mem_calls.MemFolderFolder.remove.Goals as goal

pub returns-clause-form : goal.returns-clause-form
returns-clause-form c = (c.remove.ensures.shelf, remove_below _ _ _ _ _ _ c.self.invariant.0.below c.remove.ensures.answers)

pub invariant_of-self : goal.invariant_of-self
invariant_of-self c =
    let below = remove_below _ _ _ _ _ _ c.self.invariant.0.below c.remove.ensures.answers in
    (record { shelf = c.remove.ensures.shelf; below = below; some = c.self.invariant.0.some }, keyed_held _ _ c.remove.ensures.settled c.self.invariant.1)
