use Rattle.law_steady.proofs.NameLemmas.{host_names_last}
use Rattle.law_steady.proofs.laws.host_names_last.Goals as goal

pub returns : goal.returns
returns g c = host_names_last _ _ _ _
