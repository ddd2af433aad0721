use Rattle.law_programs.proofs.CopyLemmas.{lists_are_copied}
use Rattle.law_programs.proofs.lists.lists_are_copied.Goals as goal

pub returns : goal.returns
returns c = lists_are_copied
