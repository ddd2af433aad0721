use Rattle.kr_procfs.proofs.DecimalLemmas.{inverse}
use Rattle.kr_procfs.proofs.laws.names_and_numbers_are_inverse.Goals as goal

pub returns : goal.returns
returns c = inverse
