use Rattle.std.proofs.Common.{◌∙◌, ◌<◌, length, ap, sym, subst, Some, arith}
use Rattle.std.specs.FinMap as map
use Rattle.std.specs.List.{remove}
use Rattle.std.proofs.lemmas.Grind.{common_steps}
use Rattle.nuc_index.specs.Indexes.{tree_of}
use Rattle.nuc_index.specs.Rows.{IsIn}
use Rattle.nuc_index.specs.declared.entry.Entry.{Entry}
use Rattle.nuc_index.specs.declared.indexes.Indexes.{Indexes}
use Rattle.nuc_index.proofs.Changed.{at_within, in_ids, node_before, tree_less, indexed_less}
use Rattle.nuc_index.proofs.Indexed.{id_here}
use Rattle.nuc_index.proofs.Slots.{entry_is}
use Rattle.nuc_index.proofs.change.take_out.Goals as goal

pub slot_at-slot-requires : goal.slot_at-slot-requires
slot_at-slot-requires c = at_within c.args.entries.now c.args.indexes.now.ids.items c.args.id.0 c.args.at c.requires.at

pub leave-requires-clause-there : goal.leave-requires-clause-there
leave-requires-clause-there c = in_ids c.args.entries.now c.args.indexes.now c.requires.form c.args.at c.slot_at-slot.result c.slot_at-slot.ensures

pub remove-requires : goal.remove-requires
remove-requires c = record {
  within = subst (λ v. c.args.at < length v.items) (sym c.leave.ensures.ids) (at_within c.args.entries.now c.args.indexes.now.ids.items c.args.id.0 c.args.at c.requires.at);
}

pub remove-node-requires : goal.remove-node-requires
remove-node-requires c = c.requires.form.slots.full _ (in_ids c.args.entries.now c.args.indexes.now c.requires.form c.args.at c.slot_at-slot.result c.slot_at-slot.ensures)

pub returns-clause-form : goal.returns-clause-form
returns-clause-form c =
    let after : Indexes = record { ids = c.remove.new.self; places = c.leave.new.self.places; siblings = c.leave.new.self.siblings } in
    indexed_less c.args.entries.now c.args.indexes.now c.requires.form c.args.at c.slot_at-slot.result c.slot_at-slot.ensures c.remove-node.new.self after
    c.remove-node.ensures.updates.others (c.remove.ensures.items ∙ ap (λ v. remove v.items c.args.at) c.leave.ensures.ids)
    (λ l h. subst (λ v. IsIn l v.items) c.leave.ensures.ids (c.leave.ensures.slots.places l h))
    (λ l h. subst (λ v. IsIn l v.items) c.leave.ensures.ids (c.leave.ensures.slots.siblings l h))
    c.leave.ensures.lists (grind (arith, common_steps, c.requires.form.fits))

pub returns-clause-before : goal.returns-clause-before
returns-clause-before c =
    node_before c.args.entries.now c.args.indexes.now c.requires.form c.args.at c.slot_at-slot.result c.slot_at-slot.ensures c.args.id.0 c.requires.at
    ∙ ap (λ (e : Entry). Some e.node) (entry_is c.args.entries.now c.slot_at-slot.result c.remove-node.result c.remove-node.ensures.value)

pub returns-clause-nodes : goal.returns-clause-nodes
returns-clause-nodes c =
    let after : Indexes = record { ids = c.remove.new.self; places = c.leave.new.self.places; siblings = c.leave.new.self.siblings } in
    tree_less c.args.entries.now c.args.indexes.now c.requires.form c.args.at c.slot_at-slot.result c.slot_at-slot.ensures c.remove-node.new.self after
    c.remove-node.ensures.updates.others (c.remove.ensures.items ∙ ap (λ v. remove v.items c.args.at) c.leave.ensures.ids)
    (λ l h. subst (λ v. IsIn l v.items) c.leave.ensures.ids (c.leave.ensures.slots.places l h))
    (λ l h. subst (λ v. IsIn l v.items) c.leave.ensures.ids (c.leave.ensures.slots.siblings l h))
    c.leave.ensures.lists
    ∙ ap (map.remove (tree_of c.args.entries.now c.args.indexes.now))
    (id_here c.args.entries.now c.args.indexes.now.ids.items c.requires.form.rise c.args.at c.slot_at-slot.result c.slot_at-slot.ensures c.args.id.0 c.requires.at)
