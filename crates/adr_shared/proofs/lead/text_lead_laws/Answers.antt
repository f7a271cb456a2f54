use Rattle.adr_shared.proofs.Leads.{leads_follow_texts}
use Rattle.adr_shared.proofs.lead.text_lead_laws.Goals as goal

pub returns : goal.returns
returns c = leads_follow_texts
