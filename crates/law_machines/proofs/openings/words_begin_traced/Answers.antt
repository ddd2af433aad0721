use Rattle.law_machines.proofs.OpeningLemmas.{words_begin_traced}
use Rattle.law_machines.proofs.openings.words_begin_traced.Goals as goal

pub returns : goal.returns
returns c = words_begin_traced
