use Rattle.std.proofs.Common.{◌≡◌, ◌≢◌, ◌+◌, ◌∙◌, ap, sym, rules, Some}
use Rattle.std.specs.Prelude.{slice_get}
use Rattle.nuc_index.specs.Siblings.{id_below}
use Rattle.nuc_index.proofs.Children.{row_own, row_other}
use Rattle.nuc_index.proofs.Rows.{at_in}
use Rattle.nuc_index.proofs.Slots.{row_shown}
use Rattle.nuc_index.proofs.sibling.child_at.Goals as goal

pub index-requires : goal.index-requires
index-requires c =
    let at : slice_get c.args.siblings.now.items (c.args.i + c.from_parent-start.result) ≡ Some c.in_ok-slot.slot = search rules in
    c.requires.full _ (at_in _ _ _ at)

pub returns-then-eq : goal.returns-then-eq
returns-then-eq c =
    let at : slice_get c.args.siblings.now.items (c.args.i + c.from_parent-start.result) ≡ Some c.in_ok-slot.slot = search rules in
    let own : c.row_of-row.result.parent.0 ≡ c.args.parent.0 = search rules in
    sym (c.from_parent-start.ensures.rows c.args.i
    ∙ ap (id_below c.args.parent.0) (row_shown c.args.entries.now c.args.siblings.now.items _ _ c.index.result.now at c.index.ensures ∙ ap Some (sym c.row_of-row.ensures))
    ∙ row_own c.args.parent.0 c.row_of-row.result own)

pub returns-else-eq : goal.returns-else-eq
returns-else-eq c =
    let at : slice_get c.args.siblings.now.items (c.args.i + c.from_parent-start.result) ≡ Some c.in_ok-slot.slot = search rules in
    let other : c.row_of-row.result.parent.0 ≢ c.args.parent.0 = search rules in
    sym (c.from_parent-start.ensures.rows c.args.i
    ∙ ap (id_below c.args.parent.0) (row_shown c.args.entries.now c.args.siblings.now.items _ _ c.index.result.now at c.index.ensures ∙ ap Some (sym c.row_of-row.ensures))
    ∙ row_other c.args.parent.0 c.row_of-row.result other)
