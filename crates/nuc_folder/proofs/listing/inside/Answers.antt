use Rattle.std.proofs.Common.{ap, rules}
use Rattle.std.specs.Ordering.{is_lt}
use Rattle.std.proofs.lemmas.Cmp.{nat_list_cmp_total}
use Rattle.std.proofs.lemmas.List.Sorted.{answers_always, ranks_by}
use Rattle.nuc_folder.specs.declared.item.Item.{Item}
use Rattle.nuc_folder.proofs.ByName.{name_below, sorted_inside}
use Rattle.nuc_folder.proofs.listing.inside.Goals as goal

pub returns : goal.returns
returns c =
    let sorted = c.in_ok-sort_by.ensures.sorted name_below (ranks_by nat_list_cmp_total (λ (i : Item). i.name)) (answers_always _ _ _ (λ f a r q k. ap is_lt (search rules))) in
    sorted_inside c.args.shelf.now.now c.args.key.0 c.requires.form _ _ c.in_ok-items.ensures c.sort_by.ensures.permutation sorted
