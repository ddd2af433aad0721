use Rattle.std.proofs.Common.{sym, true}
use Rattle.rv_mem.specs.Marks.{marks_of}
use Rattle.rv_mem.proofs.MarkLemmas.{of-put}
use Rattle.rv_mem.proofs.marks.Marks.set.Goals as goal

pub returns : goal.returns
returns c =
    of-put (record { some = c.make_some.new.self.some; words = c.put.new.words }) c.make_some.new.self.words c.args.from c.args.to true c.make_some.ensures.some c.requires.ordered c.requires.within
    c.put.ensures.inside c.put.ensures.below c.put.ensures.above (marks_of c.args.self.now) (sym c.make_some.ensures.words)
