use Rattle.law_kept.proofs.StartLemmas.{tables-have-bytes}
use Rattle.law_kept.proofs.starts.tables_have_bytes.Goals as goal

pub returns : goal.returns
returns c = tables-have-bytes
