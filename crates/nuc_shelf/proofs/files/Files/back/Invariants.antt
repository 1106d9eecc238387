use Rattle.std.proofs.Common.{◌≡◌}
use Rattle.nuc_shelf.proofs.files.Files.back.Given as goal

abbrev pub invariant-loop : goal.invariant-loop
invariant-loop l = l.self.settled ≡ l.initial.self.settled

abbrev pub decreases-loop : goal.decreases-loop
decreases-loop l = l.self.changes
