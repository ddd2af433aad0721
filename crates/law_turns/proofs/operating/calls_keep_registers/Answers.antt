use Rattle.law_turns.proofs.RegisterLemmas.{calls_keep_registers}
use Rattle.law_turns.proofs.operating.calls_keep_registers.Goals as goal

pub returns : goal.returns
returns c = calls_keep_registers
