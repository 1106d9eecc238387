use Rattle.std.proofs.Common.{◌≡◌, ◌≤◌, ℕ, List, false}
use Rattle.nuc_script.proofs.Taking.{IsSoFar}
use Rattle.nuc_script.proofs.read.read_script.Given as goal

abbrev pub invariant-loop-count : goal.invariant-loop-count
invariant-loop-count g l =
    (lines : List (List ℕ)) × IsSoFar (g.S.Source.left l.fn.src) lines l.count l.commands.items (g.S.Source.left l.src)
    × (l.line.spent ≡ false)
    × (g.S.Source.faults l.fn.src ≤ g.S.Source.faults l.src)
