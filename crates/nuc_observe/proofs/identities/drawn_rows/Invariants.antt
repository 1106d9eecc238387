use Rattle.std.proofs.Common.{◌≡◌, take}
use Rattle.nuc_observe.specs.Observed.{identity_rows, next_id_after}
use Rattle.nuc_observe.proofs.identities.drawn_rows.Given as goal

abbrev pub invariant-loop-item : goal.invariant-loop-item
invariant-loop-item l = record {
  rows : l.rows.items ≡ identity_rows l.keys.now l.fn.next_id (take l.item-index l.items);
  next : l.next ≡ next_id_after l.keys.now l.fn.next_id (take l.item-index l.items);
}
