use Rattle.law_turns.proofs.IndexLemmas.{texts_have_indices}
use Rattle.law_turns.proofs.paths.texts_have_indices.Goals as goal

pub returns : goal.returns
returns c = texts_have_indices
