use Rattle.std.proofs.Common.{ap, length}
use Rattle.rv_mem.proofs.CodeLemmas.{decoded-empty}
use Rattle.rv_mem.proofs.code.Code.none.Goals as goal

pub returns : goal.returns
returns c bytes = decoded-empty c.new-entries.result.items bytes (ap length c.new-entries.ensures.items)
