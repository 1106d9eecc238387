use Rattle.std.proofs.Common.{◌≡◌, []}
use Rattle.nuc_undo.proofs.tests.puts_what_is_laid_by.Given as goal

abbrev pub invariant-loop-number : goal.invariant-loop-number
invariant-loop-number g l = l.tree.past ≡ []
