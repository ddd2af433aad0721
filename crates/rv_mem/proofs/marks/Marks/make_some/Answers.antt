use Rattle.std.proofs.Common.{◌∙◌, sym}
use Rattle.rv_mem.proofs.MarkLemmas.{of-some, of-none, marks-zeros}
use Rattle.rv_mem.proofs.marks.Marks.make_some.Goals as goal

pub returns-then-not-self-clause-words : goal.returns-then-not-self-clause-words
returns-then-not-self-clause-words c = marks-zeros 64 ∙ sym (of-none c.args.self.now c.if-not-self.true)

pub returns-else-not-self-clause-words : goal.returns-else-not-self-clause-words
returns-else-not-self-clause-words c = sym (of-some c.args.self.now c.if-not-self.false)
