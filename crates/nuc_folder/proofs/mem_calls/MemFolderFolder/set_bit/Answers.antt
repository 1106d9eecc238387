use Rattle.nuc_folder.proofs.Keyed.{keyed_held, set_bit_below}
use Rattle.nuc_folder.proofs.mem_calls.MemFolderFolder.set_bit.Goals as goal

pub returns-clause-form : goal.returns-clause-form
returns-clause-form c = (c.set_bit.ensures.shelf, set_bit_below _ _ _ _ _ _ _ c.self.invariant.0.below c.set_bit.ensures.answers)

pub invariant_of-self : goal.invariant_of-self
invariant_of-self c =
    let below = set_bit_below _ _ _ _ _ _ _ c.self.invariant.0.below c.set_bit.ensures.answers in
    (record { shelf = c.set_bit.ensures.shelf; below = below; some = c.self.invariant.0.some }, keyed_held _ _ c.set_bit.ensures.settled c.self.invariant.1)
