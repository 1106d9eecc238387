use Rattle.std.proofs.Common.{ap, sym}
use Rattle.std.specs.FinMap.{get}
use Rattle.std.specs.Ordering.{ordering_index}
use Rattle.nuc_base.specs.declared.node.Place.{Place}
use Rattle.nuc_index.specs.Indexes.{tree_of}
use Rattle.nuc_index.specs.Places.{place_order, to_place}
use Rattle.nuc_index.specs.Slots.{entry_in}
use Rattle.nuc_index.proofs.Indexed.{node_in, places_of_slots}
use Rattle.nuc_index.proofs.Places.{place_total}
use Rattle.nuc_index.proofs.Search.{index_along, index_rises}
use Rattle.nuc_index.proofs.Slots.{along}
use Rattle.nuc_index.proofs.place.place_position.Goals as goal

pub position-requires-clause-full : goal.position-requires-clause-full
position-requires-clause-full c k h = c.requires.slots.full k (c.requires.slots.places k h)

pub position-requires-clause-rise : goal.position-requires-clause-rise
position-requires-clause-rise c =
    let s = c.args.entries.now in
    let p : Place = record { parent = c.args.parent; name = c.args.name.now } in
    index_along (λ a b. place_order (entry_in s a).node.place (entry_in s b).node.place) (λ k. ordering_index (place_order (entry_in s k).node.place p))
    (λ a b less. index_rises place_total (entry_in s a).node.place (entry_in s b).node.place p less) c.args.indexes.now.places.items
    (places_of_slots s c.args.indexes.now c.requires.slots c.requires.rise c.requires.places)

pub returns-clause-place : goal.returns-clause-place
returns-clause-place c =
    let s = c.args.entries.now in
    let m = tree_of s c.args.indexes.now in
    let p : Place = record { parent = c.args.parent; name = c.args.name.now } in
    along (λ k. place_order (entry_in s k).node.place p) (λ x. to_place (get m x.0) p) (λ k. (entry_in s k).id) c.args.indexes.now.places.items c.position.result
    (λ k h. sym (ap (λ o. to_place o p) (node_in s c.args.indexes.now.ids.items c.requires.rise k (c.requires.slots.places k h)))) c.position.ensures.place
