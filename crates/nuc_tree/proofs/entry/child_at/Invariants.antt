use Rattle.std.proofs.Common.{◌≡◌, drop}
use Rattle.std.specs.Prelude.{slice_get}
use Rattle.nuc_tree.specs.Entries.{child_ids}
use Rattle.nuc_tree.proofs.entry.child_at.Given as goal

abbrev pub invariant-loop-entry : goal.invariant-loop-entry
invariant-loop-entry l = slice_get (child_ids l.parent.0 l.entries) l.fn.i ≡ slice_get (child_ids l.parent.0 (drop l.entry-index l.entries)) l.before
