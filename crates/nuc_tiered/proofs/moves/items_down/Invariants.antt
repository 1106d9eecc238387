use Rattle.std.proofs.Common.{◌-◌, ◌≡◌, ◌≤◌, length}
use Rattle.std.specs.List.{insert}
use Rattle.nuc_tiered.specs.Rings.{IsRings, row}
use Rattle.nuc_tiered.proofs.moves.items_down.Given as goal

abbrev pub invariant-loop-p : goal.invariant-loop-p
invariant-loop-p l = record {
  form : IsRings l.cells l.heads;
  order : l.to ≤ l.p;
  within : l.p ≤ length l.cells;
  row : insert (row l.cells l.heads) l.p l.hand ≡ insert (row l.fn.cells l.heads) l.fn.from l.fn.hand;
}

abbrev pub decreases-loop-p : goal.decreases-loop-p
decreases-loop-p l = l.p - l.to
