use Rattle.law_edits.proofs.RewritingLemmas.{walks_are_swapped}
use Rattle.law_edits.proofs.laws.walks_are_swapped.Goals as goal

pub returns : goal.returns
returns c = walks_are_swapped
