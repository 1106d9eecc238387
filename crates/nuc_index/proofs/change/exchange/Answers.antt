use Rattle.std.proofs.Common.{◌∙◌, ap, sym, subst, Some, arith}
use Rattle.std.proofs.lemmas.Grind.{common_steps}
use Rattle.nuc_base.specs.SamePlace.{SamePlace}
use Rattle.nuc_index.specs.Entries.{nodes_of, IsRising}
use Rattle.nuc_index.specs.Slots.{entries_in}
use Rattle.nuc_index.specs.declared.entry.Entry.{Entry}
use Rattle.nuc_index.proofs.Changed.{at_within, in_ids, node_before, tree_now, rise_now, indexed_still, can_enter_over}
use Rattle.nuc_index.proofs.Slots.{entry_is}
use Rattle.nuc_index.proofs.change.exchange.Goals as goal

pub slot_at-slot-requires : goal.slot_at-slot-requires
slot_at-slot-requires c = at_within c.args.entries.now c.args.indexes.now.ids.items c.args.entry.id.0 c.args.at c.requires.at

pub index-requires : goal.index-requires
index-requires c = c.requires.form.slots.full _ (in_ids c.args.entries.now c.args.indexes.now c.requires.form c.args.at c.slot_at-slot.result c.slot_at-slot.ensures)

pub returns-then-stays-clause-form : goal.returns-then-stays-clause-form
returns-then-stays-clause-form c =
    let same = subst (λ (f : Entry). SamePlace f.node.place c.args.entry.node.place)
    (sym (entry_is c.args.entries.now c.slot_at-slot.result c.index.result.now c.index.ensures)) c.if-stays.ensures in
    indexed_still c.args.entries.now c.args.indexes.now c.requires.form c.args.at c.slot_at-slot.result c.slot_at-slot.ensures c.replace.new.entries c.args.entry
    c.replace.ensures.updates.changed c.replace.ensures.updates.others c.requires.at same (grind (arith, common_steps, c.requires.form.fits))

pub returns-then-stays-clause-nodes : goal.returns-then-stays-clause-nodes
returns-then-stays-clause-nodes c =
    tree_now c.args.entries.now c.args.indexes.now c.requires.form c.args.at c.slot_at-slot.result c.slot_at-slot.ensures c.replace.new.entries c.args.entry
    c.replace.ensures.updates.changed c.replace.ensures.updates.others c.requires.at

pub returns-then-stays-clause-before : goal.returns-then-stays-clause-before
returns-then-stays-clause-before c =
    node_before c.args.entries.now c.args.indexes.now c.requires.form c.args.at c.slot_at-slot.result c.slot_at-slot.ensures c.args.entry.id.0 c.requires.at
    ∙ ap Some (sym c.replace.ensures.before)

pub leave-requires-clause-there : goal.leave-requires-clause-there
leave-requires-clause-there c = in_ids c.args.entries.now c.args.indexes.now c.requires.form c.args.at c.slot_at-slot.result c.slot_at-slot.ensures

pub enter-requires-clause-can : goal.enter-requires-clause-can
enter-requires-clause-can c =
    can_enter_over c.args.entries.now c.args.indexes.now c.requires.form c.args.at c.slot_at-slot.result c.slot_at-slot.ensures c.replace-before.new.entries c.args.entry
    c.replace-before.ensures.updates.changed c.replace-before.ensures.updates.others c.requires.at c.leave.new.self c.leave.ensures.ids c.leave.ensures.slots
    c.requires.free c.leave.ensures.lists

pub returns-clause-form : goal.returns-clause-form
returns-clause-form c = record {
  fits = grind (arith, common_steps, c.requires.form.fits);
  slots = c.enter.ensures.slots;
  rise = subst (λ v. IsRising (entries_in c.replace-before.new.entries v.items)) (sym (c.enter.ensures.ids ∙ c.leave.ensures.ids))
      (rise_now c.args.entries.now c.args.indexes.now c.requires.form c.args.at c.slot_at-slot.result c.slot_at-slot.ensures c.replace-before.new.entries c.args.entry
      c.replace-before.ensures.updates.changed c.replace-before.ensures.updates.others c.requires.at);
  lists = c.enter.ensures.lists;
}

pub returns-clause-nodes : goal.returns-clause-nodes
returns-clause-nodes c =
    ap (λ v. nodes_of (entries_in c.replace-before.new.entries v.items)) (c.enter.ensures.ids ∙ c.leave.ensures.ids)
    ∙ tree_now c.args.entries.now c.args.indexes.now c.requires.form c.args.at c.slot_at-slot.result c.slot_at-slot.ensures c.replace-before.new.entries c.args.entry
    c.replace-before.ensures.updates.changed c.replace-before.ensures.updates.others c.requires.at

pub returns-clause-before : goal.returns-clause-before
returns-clause-before c =
    node_before c.args.entries.now c.args.indexes.now c.requires.form c.args.at c.slot_at-slot.result c.slot_at-slot.ensures c.args.entry.id.0 c.requires.at
    ∙ ap Some (sym c.replace-before.ensures.before)
