use Rattle.std.proofs.Common.{◌≡◌, ◌≤◌, ◌+◌, length}
use Rattle.nuc_undo.specs.State.{settled_of}
use Rattle.nuc_undo.proofs.undo_tree.UndoTree.back.Given as goal

abbrev pub invariant-loop : goal.invariant-loop
invariant-loop g l = record {
  settled : settled_of l.self ≡ settled_of l.initial.self;
  spare : l.initial.self.spare + length l.initial.self.past ≤ l.self.spare + length l.self.past;
  laid_then : l.self.laid_then ≡ l.initial.self.laid_then;
}

abbrev pub decreases-loop : goal.decreases-loop
decreases-loop g l = length l.self.past
