use Rattle.law_plans.proofs.DecodedLemmas.{counts_are_decoded}
use Rattle.law_plans.proofs.decoded.counts_are_decoded.Goals as goal

pub returns : goal.returns
returns c = counts_are_decoded
