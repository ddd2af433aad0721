use Rattle.law_programs.proofs.ListLemmas.{standing_lists_are_read}
use Rattle.law_programs.proofs.lists.standing_lists_are_read.Goals as goal

pub returns : goal.returns
returns c = standing_lists_are_read
