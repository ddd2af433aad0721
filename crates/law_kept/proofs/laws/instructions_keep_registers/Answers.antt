use Rattle.law_kept.proofs.RegisterLemmas.{instructions-keep-registers}
use Rattle.law_kept.proofs.laws.instructions_keep_registers.Goals as goal

pub returns : goal.returns
returns c = instructions-keep-registers
