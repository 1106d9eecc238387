use Rattle.std.proofs.Common.{◌≡◌, ◌*◌}
use Rattle.std.specs.List.{insert}
use Rattle.nuc_tiered.specs.Rings.{IsRings, row}
use Rattle.nuc_tiered.proofs.moves.rings_up.Given as goal

abbrev pub invariant-loop-k : goal.invariant-loop-k
invariant-loop-k l = record {
  form : IsRings l.cells l.heads;
  row : insert (row l.cells l.heads) (l.k * 512) l.hand ≡ insert (row l.fn.cells l.fn.heads) (l.fn.from * 512) l.fn.hand;
}
