use Rattle.law_programs.proofs.ListLemmas.{read_lists_stand}
use Rattle.law_programs.proofs.lists.read_lists_stand.Goals as goal

pub returns : goal.returns
returns c = read_lists_stand
