use Rattle.law_plans.proofs.DecodedLemmas.{first_of_two_is_decoded}
use Rattle.law_plans.proofs.decoded.first_of_two_is_decoded.Goals as goal

pub returns : goal.returns
returns c = first_of_two_is_decoded
