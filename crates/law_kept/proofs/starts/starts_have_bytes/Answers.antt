use Rattle.law_kept.proofs.StartLemmas.{starts-have-bytes}
use Rattle.law_kept.proofs.starts.starts_have_bytes.Goals as goal

pub returns : goal.returns
returns g c = starts-have-bytes _
