use Rattle.law_steady.proofs.ToldLemmas.{same_trees_have_both}
use Rattle.law_steady.proofs.laws.same_trees_have_both.Goals as goal

pub returns : goal.returns
returns c = same_trees_have_both
