use Rattle.law_turns.proofs.RegisterLemmas.{changes_keep_registers}
use Rattle.law_turns.proofs.changing.changes_keep_registers.Goals as goal

pub returns : goal.returns
returns c = changes_keep_registers
