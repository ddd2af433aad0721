use Rattle.pt_bind.proofs.LawLemmas.{host_texts_go_back}
use Rattle.pt_bind.proofs.laws.host_texts_go_back.Goals as goal

pub returns : goal.returns
returns c = host_texts_go_back
