use Rattle.rv_mem.proofs.MarkLemmas.{of-none}
use Rattle.rv_mem.proofs.marks.Marks.has_some.Goals as goal

pub returns : goal.returns
returns c is = of-none c.args.self.now is
