use Rattle.law_kept.proofs.TurnLemmas.{nobody-watches-bytes}
use Rattle.law_kept.proofs.turns.nobody_watches_bytes.Goals as goal

pub returns : goal.returns
returns g c = nobody-watches-bytes _
