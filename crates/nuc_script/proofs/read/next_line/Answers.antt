use Rattle.nuc_script.proofs.Lines.{judged}
use Rattle.nuc_script.proofs.read.next_line.Goals as goal

pub returns-in-Whole-clause-next : goal.returns-in-Whole-clause-next
returns-in-Whole-clause-next g c =
    let (unspent, spent, whole, took) = c.in-Whole.ensures.line in
    judged _ _ _ _ _ _ whole took c.judge_whole.ensures
