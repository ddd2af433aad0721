use Rattle.law_kept.proofs.TurnLemmas.{runs-keep-bytes}
use Rattle.law_kept.proofs.turns.runs_keep_bytes.Goals as goal

pub returns : goal.returns
returns g c = runs-keep-bytes _
