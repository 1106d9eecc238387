use Rattle.nuc_edits.specs.Edits.{IsNext}
use Rattle.nuc_server.specs.WebEdits.{IsNextId}
use Rattle.nuc_server.proofs.web_tests.answers_web_edits.Given as goal

abbrev pub invariant-loop-edit : goal.invariant-loop-edit
invariant-loop-edit g l = IsNext l.ids.next_ver l.edits.now.edits × IsNextId l.ids.next_id l.server.now
