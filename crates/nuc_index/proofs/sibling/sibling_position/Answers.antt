use Rattle.std.proofs.Common.{refl}
use Rattle.std.specs.Ordering.{ordering_index}
use Rattle.nuc_index.specs.Siblings.{sibling_order}
use Rattle.nuc_index.specs.Slots.{entry_in, row_of_entry}
use Rattle.nuc_index.proofs.Search.{index_along}
use Rattle.nuc_index.proofs.Siblings.{to_rises}
use Rattle.nuc_index.proofs.Slots.{along, rises_of_map}
use Rattle.nuc_index.proofs.sibling.sibling_position.Goals as goal

pub position-requires-clause-rise : goal.position-requires-clause-rise
position-requires-clause-rise c =
    let s = c.args.entries.now in
    index_along (λ a b. sibling_order (row_of_entry (entry_in s a)) (row_of_entry (entry_in s b))) (λ k. ordering_index (sibling_order (row_of_entry (entry_in s k)) c.args.row))
    (λ a b less. to_rises c.args.row (row_of_entry (entry_in s a)) (row_of_entry (entry_in s b)) less) c.args.siblings.now.items
    (rises_of_map sibling_order (λ k. row_of_entry (entry_in s k)) c.args.siblings.now.items c.requires.rise)

pub returns-clause-place : goal.returns-clause-place
returns-clause-place c =
    let s = c.args.entries.now in
    along (λ k. sibling_order (row_of_entry (entry_in s k)) c.args.row) (λ r. sibling_order r c.args.row) (λ k. row_of_entry (entry_in s k)) c.args.siblings.now.items
    c.position.result (λ k h. refl) c.position.ensures.place
