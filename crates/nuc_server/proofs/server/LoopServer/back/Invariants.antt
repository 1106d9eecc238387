use Rattle.std.proofs.Common.{◌≡◌, ◌≤◌, ◌+◌, ◌-◌, length, take}
use Rattle.nuc_journal.specs.Entries.{tree_of}
use Rattle.nuc_server.specs.Undo.{AreUndone}
use Rattle.nuc_server.proofs.server.LoopServer.back.Given as goal

abbrev pub invariant-loop-undo : goal.invariant-loop-undo
invariant-loop-undo l = record {
  journal : l.self-inside.journal ≡ l.initial.self-inside.journal;
  ready : l.self-inside.ready ≡ l.initial.self-inside.ready;
  tree : l.self-inside.tree.nodes ≡ tree_of (take (length l.initial.self-inside.journal.now - length l.initial.self-inside.undos.items + length l.self-inside.undos.items) l.initial.self-inside.journal.now);
  undone : AreUndone (take (length l.initial.self-inside.journal.now - length l.initial.self-inside.undos.items + length l.self-inside.undos.items) l.initial.self-inside.journal.now) (length l.initial.self-inside.journal.now - length l.initial.self-inside.undos.items) l.self-inside.undos.items;
  room : length l.self-inside.undos.items ≤ l.self-inside.tree.spare;
}

abbrev pub decreases-loop-undo : goal.decreases-loop-undo
decreases-loop-undo l = length l.self-inside.undos.items
