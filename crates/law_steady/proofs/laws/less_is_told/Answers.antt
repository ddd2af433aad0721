use Rattle.law_steady.proofs.ExactLemmas.{less_is_told}
use Rattle.law_steady.proofs.laws.less_is_told.Goals as goal

pub returns : goal.returns
returns c = less_is_told
