use Rattle.law_kept.proofs.TurnLemmas.{turns-keep-bytes}
use Rattle.law_kept.proofs.turns.turns_keep_bytes.Goals as goal

pub returns : goal.returns
returns g c = turns-keep-bytes _
