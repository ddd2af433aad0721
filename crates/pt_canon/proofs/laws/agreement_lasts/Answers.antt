use Rattle.pt_canon.proofs.RememberLemmas.{agreement_lasts}
use Rattle.pt_canon.proofs.laws.agreement_lasts.Goals as goal

pub returns : goal.returns
returns c = agreement_lasts
