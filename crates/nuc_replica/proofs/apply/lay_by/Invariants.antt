use Rattle.std.proofs.Common.{◌≡◌, ◌<◌, ℕ, take}
use Rattle.std.specs.FinMap.{get}
use Rattle.nuc_undo.specs.Steps.{KeepsTree}
use Rattle.nuc_replica.specs.Ahead.{AreLaidFrom, AreUntaken}
use Rattle.nuc_replica.proofs.apply.lay_by.Given as goal

abbrev pub invariant-loop-i : goal.invariant-loop-i
invariant-loop-i g l = record {
  laid : AreLaidFrom l.fn.first l.tree.laid (take l.i l.entries);
  before : (i : ℕ) → i < l.fn.first → get l.tree.laid i ≡ get l.initial.tree.laid i;
  before_then : (i : ℕ) → i < l.fn.first → get l.tree.laid_then i ≡ get l.initial.tree.laid_then i;
  untaken : AreUntaken l.tree l.fn.first;
  keeps : KeepsTree l.initial.tree l.tree;
}
