use Rattle.std.proofs.Common.{◌≡◌, [], length}
use Rattle.nuc_shelf.specs.Shelf.{IsShelf}
use Rattle.nuc_folder.specs.Shelves.{Opens}
use Rattle.nuc_folder.proofs.opening.put_all.Given as goal

abbrev pub invariant-loop-alloc : goal.invariant-loop-alloc
invariant-loop-alloc l = record {
  opens : Opens l.next_key l.fn.rows.items l.shelf.now l.waiting.items [];
  settled : l.shelf.settled ≡ l.initial.shelf.settled;
  shelf : IsShelf l.shelf.now;
}

abbrev pub decreases-loop-alloc : goal.decreases-loop-alloc
decreases-loop-alloc l = length l.waiting.items
