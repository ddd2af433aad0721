use Rattle.law_edits.proofs.ShortLemmas.{reached_texts_are_short}
use Rattle.law_edits.proofs.short.reached_texts_are_short.Goals as goal

pub returns : goal.returns
returns c = reached_texts_are_short
