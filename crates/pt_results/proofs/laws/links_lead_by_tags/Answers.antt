use Rattle.pt_results.proofs.LeadLemmas.{links_lead_by_tags}
use Rattle.pt_results.proofs.laws.links_lead_by_tags.Goals as goal

pub returns : goal.returns
returns c = links_lead_by_tags
