use Rattle.std.proofs.Common.{◌∙◌, ap, refl, subst}
use Rattle.nuc_index.specs.Siblings.{IsRowAt, IsRowGap}
use Rattle.nuc_index.specs.Slots.{row_of_entry, rows_in}
use Rattle.nuc_index.specs.declared.indexes.Indexes.{Indexes}
use Rattle.nuc_index.proofs.Indexed.{not_vacant_own, row_not_missing, left_slots, left_lists}
use Rattle.nuc_index.proofs.Slots.{same_sight}
use Rattle.nuc_index.proofs.indexes.Indexes.leave.Goals as goal

pub unreachable-requires : goal.unreachable-requires
unreachable-requires c = not_vacant_own c.args.entries.now c.args.slot c.args.self.now c.requires.slots c.requires.rise c.requires.there c.requires.lists
    c.index.result.now c.index.ensures
    c.in_default.field-0 c.in_default.ensures.place

pub sibling_position-requires-clause-full : goal.sibling_position-requires-clause-full
sibling_position-requires-clause-full c k h = c.requires.slots.full k (c.requires.slots.siblings k h)

pub unreachable-requires-in_default-sibling_position : goal.unreachable-requires-in_default-sibling_position
unreachable-requires-in_default-sibling_position c =
    let s = c.args.entries.now in
    let row = c.row_of-row.ensures ∙ ap row_of_entry (same_sight s c.args.slot c.index-2.result.now c.index.result.now c.index-2.ensures c.index.ensures) in
    row_not_missing s c.args.slot c.args.self.now c.requires.slots c.requires.rise c.requires.there c.requires.lists c.index.result.now c.index.ensures
    c.in_default-sibling_position.field-0
    (subst (λ r. IsRowGap r (rows_in s c.args.self.now.siblings.items) c.in_default-sibling_position.field-0) row c.in_default-sibling_position.ensures.place)

pub returns-clause-slots : goal.returns-clause-slots
returns-clause-slots c =
    let after : Indexes = record { ids = c.args.self.now.ids; places = c.remove.new.self; siblings = c.remove-2.new.self } in
    left_slots c.args.entries.now c.args.slot c.args.self.now c.requires.slots c.requires.rise c.requires.there c.requires.lists c.index.result.now c.index.ensures after
    c.in-Ok.at c.in-Ok-sibling_position.beside refl c.remove.ensures.items c.remove-2.ensures.items

pub returns-clause-lists : goal.returns-clause-lists
returns-clause-lists c =
    let s = c.args.entries.now in
    let after : Indexes = record { ids = c.args.self.now.ids; places = c.remove.new.self; siblings = c.remove-2.new.self } in
    let row = c.row_of-row.ensures ∙ ap row_of_entry (same_sight s c.args.slot c.index-2.result.now c.index.result.now c.index-2.ensures c.index.ensures) in
    left_lists s c.args.slot c.args.self.now c.requires.slots c.requires.rise c.requires.there c.requires.lists c.index.result.now c.index.ensures after c.in-Ok.at
    c.in-Ok-sibling_position.beside refl c.remove.ensures.items c.remove-2.ensures.items
    c.in-Ok.ensures.place
    (subst (λ r. IsRowAt r (rows_in s c.args.self.now.siblings.items) c.in-Ok-sibling_position.beside) row c.in-Ok-sibling_position.ensures.place)
