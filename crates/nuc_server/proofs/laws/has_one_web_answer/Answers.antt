use Rattle.nuc_server.proofs.OneAnswer.{one_web_answer}
use Rattle.nuc_server.proofs.laws.has_one_web_answer.Goals as goal

pub returns : goal.returns
returns c = one_web_answer
