use Rattle.std.proofs.Common.{◌∙◌, ap, refl, subst}
use Rattle.nuc_index.specs.Siblings.{IsRowAt, IsRowGap}
use Rattle.nuc_index.specs.Slots.{row_of_entry, rows_in}
use Rattle.nuc_index.specs.declared.indexes.Indexes.{Indexes}
use Rattle.nuc_index.proofs.Indexed.{rises_whole, not_taken_slot, no_row_yet, entered_slots, entered_lists}
use Rattle.nuc_index.proofs.Slots.{same_sight}
use Rattle.nuc_index.proofs.indexes.Indexes.enter.Goals as goal

pub place_position-requires-clause-places : goal.place_position-requires-clause-places
place_position-requires-clause-places c = rises_whole c.args.entries.now c.args.slot c.args.self.now c.requires.can c.index.result.now c.index.ensures

pub unreachable-requires : goal.unreachable-requires
unreachable-requires c = not_taken_slot c.args.entries.now c.args.slot c.args.self.now c.requires.can c.index.result.now c.index.ensures c.in_default.field-0 c.in_default.ensures.place

pub sibling_position-requires-clause-full : goal.sibling_position-requires-clause-full
sibling_position-requires-clause-full c k h = c.requires.can.slots.full k (c.requires.can.slots.siblings k h)

pub unreachable-requires-in_default-sibling_position : goal.unreachable-requires-in_default-sibling_position
unreachable-requires-in_default-sibling_position c =
    let s = c.args.entries.now in
    let row = c.row_of-row.ensures ∙ ap row_of_entry (same_sight s c.args.slot c.index-2.result.now c.index.result.now c.index-2.ensures c.index.ensures) in
    no_row_yet s c.args.slot c.args.self.now c.requires.can c.index.result.now c.index.ensures c.in_default-sibling_position.field-0
    (subst (λ r. IsRowAt r (rows_in s c.args.self.now.siblings.items) c.in_default-sibling_position.field-0) row c.in_default-sibling_position.ensures.place)

pub returns-clause-slots : goal.returns-clause-slots
returns-clause-slots c =
    let after : Indexes = record { ids = c.args.self.now.ids; places = c.insert.new.self; siblings = c.insert-2.new.self } in
    entered_slots c.args.entries.now c.args.slot c.args.self.now c.requires.can c.index.result.now c.index.ensures after c.in-Err.at c.in-Err-sibling_position.beside refl
    c.insert.ensures.items c.insert-2.ensures.items

pub returns-clause-lists : goal.returns-clause-lists
returns-clause-lists c =
    let s = c.args.entries.now in
    let after : Indexes = record { ids = c.args.self.now.ids; places = c.insert.new.self; siblings = c.insert-2.new.self } in
    let row = c.row_of-row.ensures ∙ ap row_of_entry (same_sight s c.args.slot c.index-2.result.now c.index.result.now c.index-2.ensures c.index.ensures) in
    entered_lists s c.args.slot c.args.self.now c.requires.can c.index.result.now c.index.ensures after c.in-Err.at c.in-Err-sibling_position.beside refl
    c.insert.ensures.items c.insert-2.ensures.items
    c.in-Err.ensures.place
    (subst (λ r. IsRowGap r (rows_in s c.args.self.now.siblings.items) c.in-Err-sibling_position.beside) row c.in-Err-sibling_position.ensures.place)
