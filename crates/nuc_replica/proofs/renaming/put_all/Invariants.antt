use Rattle.std.proofs.Common.{◌≡◌, ◌≤◌, ◌<◌, ◌+◌, All, length, map, reverse, ℕ}
use Rattle.nuc_base.specs.Kinds.{FitsKind}
use Rattle.nuc_base.specs.Ready.{LegalInTurn, all_changed}
use Rattle.nuc_replica.specs.Renaming.{Rewritten, change_of}
use Rattle.nuc_replica.proofs.renaming.put_all.Given as goal

abbrev pub invariant-loop-moved : goal.invariant-loop-moved
invariant-loop-moved g l = record {
  some : All (λ moved. 0 < moved.id.0) l.moves.items;
  fits : All (λ moved. FitsKind moved.node) l.moves.items;
  legal : LegalInTurn l.tree.now (reverse (map change_of l.moves.items));
  after : all_changed l.tree.now (reverse (map change_of l.moves.items)) ≡ all_changed l.initial.tree.now (reverse (map change_of l.initial.moves.items));
  room : length l.moves.items ≤ l.tree.spare;
  rewritten : (done : ℕ) × (done + length l.moves.items ≡ length l.initial.moves.items) × Rewritten done l.initial.tree l.tree;
}

abbrev pub decreases-loop-moved : goal.decreases-loop-moved
decreases-loop-moved g l = goal.left-loop-moved g l
