use Rattle.pt_bind.proofs.RowLemmas.{rows_read}
use Rattle.pt_bind.proofs.laws.rows_are_read.Goals as goal

pub returns : goal.returns
returns c = λ table set. rows_read table set.texts
