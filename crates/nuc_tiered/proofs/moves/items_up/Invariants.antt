use Rattle.std.proofs.Common.{◌≡◌}
use Rattle.std.specs.List.{insert}
use Rattle.nuc_tiered.specs.Rings.{IsRings, row}
use Rattle.nuc_tiered.proofs.moves.items_up.Given as goal

abbrev pub invariant-loop-p : goal.invariant-loop-p
invariant-loop-p l = record {
  form : IsRings l.cells l.heads;
  row : insert (row l.cells l.heads) l.p l.hand ≡ insert (row l.fn.cells l.heads) l.fn.from l.fn.hand;
}
