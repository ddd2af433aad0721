use Rattle.law_walks.proofs.AgreeLemmas.{looks_agree}
use Rattle.law_walks.proofs.laws.looks_agree.Goals as goal

pub returns : goal.returns
returns c = looks_agree
