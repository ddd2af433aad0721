use Rattle.law_execves.proofs.ReadyLemmas.{loaded_programs_are_ready}
use Rattle.law_execves.proofs.replacing.loaded_programs_are_ready.Goals as goal

pub returns : goal.returns
returns c = loaded_programs_are_ready
