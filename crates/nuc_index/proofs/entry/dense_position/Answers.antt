use Rattle.std.proofs.Common.{◌≡◌, ◌∙◌, rules, ap, Some}
use Rattle.std.specs.Prelude.{slice_get}
use Rattle.std.specs.Ordering.{nat_cmp}
use Rattle.std.proofs.lemmas.Cmp.{nat_cmp_total, tied_itself}
use Rattle.std.proofs.lemmas.Option.{slice_get_within}
use Rattle.nuc_index.specs.Slots.{entries_in}
use Rattle.nuc_index.proofs.Rows.{at_in}
use Rattle.nuc_index.proofs.Search.{found_at}
use Rattle.nuc_index.proofs.Slots.{entry_shown}
use Rattle.nuc_index.proofs.entry.dense_position.Goals as goal

pub index-requires : goal.index-requires
index-requires c =
    let at : slice_get c.args.ids.now.items c.in_ok-at.at ≡ Some c.in_ok-slot.slot = search rules in
    c.requires _ (at_in _ _ _ at)

pub returns-then-eq : goal.returns-then-eq
returns-then-eq c =
    let at : slice_get c.args.ids.now.items c.in_ok-at.at ≡ Some c.in_ok-slot.slot = search rules in
    let own : c.index.result.now.id.0 ≡ c.args.id.0 = search rules in (
      found_at (λ e. nat_cmp e.id.0 c.args.id.0) (entries_in c.args.entries.now c.args.ids.now.items) c.in_ok-at.at c.index.result.now
          (entry_shown c.args.entries.now c.args.ids.now.items _ _ c.index.result.now at c.index.ensures)
          (ap (λ x. nat_cmp x c.args.id.0) own ∙ tied_itself nat_cmp_total c.args.id.0),
      slice_get_within _ _ c.in_ok-slot.slot at,
    )
