use Rattle.std.specs.String.{string_bytes}
use Rattle.nuc_report.proofs.SeenClients.{Walked}
use Rattle.nuc_report.proofs.state.push_members.Given as goal

abbrev pub invariant-loop-i : goal.invariant-loop-i
invariant-loop-i g l = Walked l.members l.i (string_bytes l.initial.text) (string_bytes l.text)
