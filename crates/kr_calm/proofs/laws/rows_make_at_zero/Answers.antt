use Rattle.kr_calm.proofs.ProspectLemmas.{rows_make_at_zero}
use Rattle.kr_calm.proofs.laws.rows_make_at_zero.Goals as goal

pub returns : goal.returns
returns c = rows_make_at_zero
