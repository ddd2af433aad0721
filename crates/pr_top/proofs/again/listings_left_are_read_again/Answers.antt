use Rattle.pr_top.proofs.AgainLemmas.{are_read_again}
use Rattle.pr_top.proofs.again.listings_left_are_read_again.Goals as goal

pub returns : goal.returns
returns c = are_read_again
