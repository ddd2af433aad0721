use Rattle.pt_canon.proofs.PlainLemmas.{texts_lead_to_themselves}
use Rattle.pt_canon.proofs.laws.texts_lead_to_themselves.Goals as goal

pub returns : goal.returns
returns c = texts_lead_to_themselves
