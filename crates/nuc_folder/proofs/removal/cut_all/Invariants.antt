use Rattle.std.proofs.Common.{◌≡◌, ◌≤◌, ◌++◌, length, reverse}
use Rattle.nuc_shelf.specs.Shelf.{IsShelf}
use Rattle.nuc_folder.specs.Removals.{ChildrenLater, all_cut, removed}
use Rattle.nuc_folder.proofs.removal.cut_all.Given as goal

abbrev pub invariant-loop-key : goal.invariant-loop-key
invariant-loop-key l = record {
  now : all_cut l.shelf.now (reverse l.keys.items) ≡ all_cut l.initial.shelf.now (reverse l.initial.keys.items);
  told : l.notices.now ++ removed (reverse l.keys.items) ≡ l.initial.notices.now ++ removed (reverse l.initial.keys.items);
  later : ChildrenLater l.shelf.now.tree l.keys.items;
  shelf : IsShelf l.shelf.now;
  room : length l.keys.items ≤ l.shelf.spare;
  place : length l.keys.items ≤ l.notices.room;
  settled : l.shelf.settled ≡ l.initial.shelf.settled;
  settled_notices : l.notices.settled ≡ l.initial.notices.settled;
}

abbrev pub decreases-loop-key : goal.decreases-loop-key
decreases-loop-key l = length l.keys.items
