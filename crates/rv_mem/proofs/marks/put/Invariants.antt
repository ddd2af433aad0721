use Rattle.rv_mem.proofs.MarkLemmas.{IsPut}
use Rattle.rv_mem.proofs.marks.put.Given as goal

abbrev pub invariant-loop-index : goal.invariant-loop-index
invariant-loop-index l = IsPut l.fn.words l.words l.from l.to l.index l.value
