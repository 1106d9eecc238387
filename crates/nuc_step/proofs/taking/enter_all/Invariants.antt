use Rattle.std.proofs.Common.{◌≡◌, ◌+◌, ◌++◌, length}
use Rattle.nuc_edits.specs.Edits.{IsNext}
use Rattle.nuc_step.specs.Scanning.{VersionsFrom}
use Rattle.nuc_step.proofs.taking.enter_all.Given as goal

-- the edits so far were entered, and the rest have the versions from there on
abbrev pub invariant-loop-edit : goal.invariant-loop-edit
invariant-loop-edit l = record {
  versions : VersionsFrom l.ids.next_ver l.edit-iterator.rest.items;
  entered : l.edits.now.edits ++ l.edit-iterator.rest.items ≡ l.fn.edits.now.edits ++ l.fn.found.items;
  adoptions : l.edits.now.adoptions ≡ l.fn.edits.now.adoptions;
  count : l.ids.next_ver + length l.edit-iterator.rest.items ≡ l.fn.ids.next_ver + length l.fn.found.items;
  id : l.ids.next_id ≡ l.fn.ids.next_id;
  next : IsNext l.ids.next_ver l.edits.now.edits;
  settled : l.edits.settled ≡ l.fn.edits.settled;
}
