use Rattle.law_kept.proofs.StartLemmas.{beginnings-have-bytes}
use Rattle.law_kept.proofs.starts.beginnings_have_bytes.Goals as goal

pub returns : goal.returns
returns c = beginnings-have-bytes
