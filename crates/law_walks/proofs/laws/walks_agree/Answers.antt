use Rattle.law_walks.proofs.AgreeLemmas.{walks_agree}
use Rattle.law_walks.proofs.laws.walks_agree.Goals as goal

pub returns : goal.returns
returns c = walks_agree
