use Rattle.std.proofs.Common.{rules, ◌≡◌, Some}
use Rattle.std.specs.Prelude.{slice_get}
use Rattle.nuc_index.proofs.Rows.{at_in}
use Rattle.nuc_index.proofs.Slots.{id_shown}
use Rattle.nuc_index.proofs.entry.id_at.Goals as goal

pub index-requires : goal.index-requires
index-requires c =
    let at : slice_get c.args.slots.now.items c.args.at ≡ Some c.in_ok-slot.slot = search rules in
    c.requires _ (at_in _ _ _ at)

pub returns : goal.returns
returns c =
    let at : slice_get c.args.slots.now.items c.args.at ≡ Some c.in_ok-slot.slot = search rules in
    id_shown c.args.entries.now c.args.slots.now.items c.args.at _ c.index.result.now at c.index.ensures
