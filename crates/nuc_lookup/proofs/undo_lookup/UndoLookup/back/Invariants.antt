use Rattle.std.proofs.Common.{◌≡◌, ◌≤◌, ◌+◌, length}
use Rattle.nuc_lookup.specs.State.{settled_of}
use Rattle.nuc_lookup.proofs.undo_lookup.UndoLookup.back.Given as goal

abbrev pub invariant-loop : goal.invariant-loop
invariant-loop l = record {
  settled : settled_of l.self ≡ settled_of l.initial.self;
  spare : l.initial.self.spare + length l.initial.self.past ≤ l.self.spare + length l.self.past;
}

abbrev pub decreases-loop : goal.decreases-loop
decreases-loop l = length l.self.past
