use Rattle.std.proofs.Common.{◌≡◌, ◌++◌, ℕ, List}
use Rattle.nuc_folder.specs.Listing.{AreInside, Unfolds}
use Rattle.nuc_folder.specs.declared.item.Item.{Item}
use Rattle.nuc_folder.proofs.listing.+push_below.Given as goal

abbrev pub decreases-push_below : goal.decreases-push_below
decreases-push_below l = l.left

-- the items so far were added, each with what is below it; with the rest they are what is in the folder
abbrev pub invariant-loop-item : goal.invariant-loop-item
invariant-loop-item l = record {
  added : (below : List Item) × (l.items ≡ l.fn.items ++ below) × Unfolds l.shelf.now l.yielded below;
  inside : AreInside l.shelf.now l.fn.key.0 (l.yielded ++ l.item-iterator.rest.items);
}
