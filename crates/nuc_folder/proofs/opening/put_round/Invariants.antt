use Rattle.std.proofs.Common.{◌≡◌, ◌≤◌, ◌+◌, List, [], length}
use Rattle.nuc_shelf.specs.Shelf.{IsShelf}
use Rattle.nuc_folder.specs.Shelves.{AreStuck, Opens}
use Rattle.nuc_folder.specs.declared.shelved.Shelved.{Shelved}
use Rattle.nuc_folder.proofs.opening.put_round.Given as goal

abbrev pub invariant-loop-row : goal.invariant-loop-row
invariant-loop-row l = record {
  opens : (rows : List Shelved) → Opens l.next_key rows l.initial.shelf.now l.initial.waiting.items [] → Opens l.next_key rows l.shelf.now l.waiting.items l.rest.items;
  shorter : length l.waiting.items + length l.rest.items ≤ length l.initial.waiting.items;
  stuck : length l.waiting.items + length l.rest.items ≡ length l.initial.waiting.items → AreStuck l.shelf.now.tree l.rest.items;
  settled : l.shelf.settled ≡ l.initial.shelf.settled;
  shelf : IsShelf l.shelf.now;
}

abbrev pub decreases-loop-row : goal.decreases-loop-row
decreases-loop-row l = length l.waiting.items
