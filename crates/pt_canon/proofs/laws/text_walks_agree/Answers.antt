use Rattle.pt_canon.proofs.AgreeLemmas.{text_walks_agree}
use Rattle.pt_canon.proofs.laws.text_walks_agree.Goals as goal

pub returns : goal.returns
returns c = text_walks_agree
