use Rattle.law_execves.proofs.ReplaceLemmas.{programs_keep_matches}
use Rattle.law_execves.proofs.replacing.programs_keep_matches.Goals as goal

pub returns : goal.returns
returns c = programs_keep_matches
