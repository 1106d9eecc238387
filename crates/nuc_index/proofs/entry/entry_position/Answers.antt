use Rattle.std.proofs.Common.{refl}
use Rattle.std.specs.Ordering.{nat_cmp, ordering_index}
use Rattle.std.proofs.lemmas.Cmp.{nat_cmp_total}
use Rattle.nuc_index.specs.Entries.{entry_order}
use Rattle.nuc_index.specs.Slots.{entry_in}
use Rattle.nuc_index.proofs.Search.{index_along, index_rises}
use Rattle.nuc_index.proofs.Slots.{along, rises_of_map}
use Rattle.nuc_index.proofs.entry.entry_position.Goals as goal

pub position-requires-clause-rise : goal.position-requires-clause-rise
position-requires-clause-rise c =
    let s = c.args.entries.now in
    let x = c.args.id.0 in
    index_along (λ a b. entry_order (entry_in s a) (entry_in s b)) (λ k. ordering_index (nat_cmp (entry_in s k).id.0 x))
    (λ a b less. index_rises nat_cmp_total (entry_in s a).id.0 (entry_in s b).id.0 x less) c.args.ids.now.items
    (rises_of_map entry_order (entry_in s) c.args.ids.now.items c.requires.rise)

pub returns-in-None-clause-place : goal.returns-in-None-clause-place
returns-in-None-clause-place c =
    let s = c.args.entries.now in
    let x = c.args.id.0 in
    along (λ k. nat_cmp (entry_in s k).id.0 x) (λ e. nat_cmp e.id.0 x) (entry_in s) c.args.ids.now.items c.position.result (λ k h. refl) c.position.ensures.place
