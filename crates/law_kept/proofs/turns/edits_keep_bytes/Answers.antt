use Rattle.law_kept.proofs.TurnLemmas.{edits-keep-bytes}
use Rattle.law_kept.proofs.turns.edits_keep_bytes.Goals as goal

pub returns : goal.returns
returns c = edits-keep-bytes
