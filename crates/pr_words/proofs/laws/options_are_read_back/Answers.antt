use Rattle.pr_words.proofs.ReadBackLemmas.{options_back}
use Rattle.pr_words.proofs.laws.options_are_read_back.Goals as goal

pub returns : goal.returns
returns c = options_back
