use Rattle.std.proofs.Common.{◌-◌, false}
use Rattle.rv_mem.specs.Marks.{marks_of}
use Rattle.rv_mem.proofs.MarkLemmas.{of-some, of-none, of-put, none-cleared}
use Rattle.rv_mem.proofs.marks.Marks.clear.Goals as goal

pub returns-then-self : goal.returns-then-self
returns-then-self c =
    of-put (record { some = c.args.self.now.some; words = c.put.new.words }) c.args.self.now.words c.args.from c.args.to false c.if-self.true c.requires.ordered c.requires.within
    c.put.ensures.inside c.put.ensures.below c.put.ensures.above (marks_of c.args.self.now) (of-some c.args.self.now c.if-self.true)

pub returns-else-self : goal.returns-else-self
returns-else-self c = none-cleared (marks_of c.args.self.now) c.args.from (c.args.to - c.args.from) (of-none c.args.self.now c.if-self.false)
