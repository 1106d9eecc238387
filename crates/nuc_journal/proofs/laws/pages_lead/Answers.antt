use Rattle.nuc_journal.proofs.Histories.{page_leads}
use Rattle.nuc_journal.proofs.laws.pages_lead.Goals as goal

pub returns : goal.returns
returns c = page_leads
