use Rattle.law_kept.proofs.TurnLemmas.{turns-end-with-bytes}
use Rattle.law_kept.proofs.turns.turns_end_with_bytes.Goals as goal

pub returns : goal.returns
returns c = turns-end-with-bytes
