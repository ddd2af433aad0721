use Rattle.law_kept.proofs.ChangeLemmas.{computing-keeps-bytes}
use Rattle.law_kept.proofs.laws.computing_keeps_bytes.Goals as goal

pub returns : goal.returns
returns g c = computing-keeps-bytes _
