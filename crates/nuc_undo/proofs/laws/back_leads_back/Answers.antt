use Rattle.nuc_undo.proofs.Leads.{back_leads_back}
use Rattle.nuc_undo.proofs.laws.back_leads_back.Goals as goal

pub returns : goal.returns
returns c = back_leads_back
