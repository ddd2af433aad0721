use Rattle.law_entries.proofs.ExitLemmas.{exits-go-by-own}
use Rattle.law_entries.proofs.laws.exits_go_by_own.Goals as goal

pub returns : goal.returns
returns c = exits-go-by-own
