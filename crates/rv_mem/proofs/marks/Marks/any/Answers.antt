use Rattle.std.proofs.Common.{◌∙◌}
use Rattle.rv_mem.specs.Marks.{marks_of}
use Rattle.rv_mem.proofs.MarkLemmas.{of-some, of-none, some-found, none-found}
use Rattle.rv_mem.proofs.marks.Marks.any.Goals as goal

pub returns-then-self : goal.returns-then-self
returns-then-self c =
    some-found c.args.self.now.words c.args.from c.args.count c.any_set.result (marks_of c.args.self.now) (of-some c.args.self.now c.if-self.true) c.requires c.any_set.ensures.none c.any_set.ensures.some

pub returns-else-self : goal.returns-else-self
returns-else-self c = c.if-self.false ∙ none-found (marks_of c.args.self.now) c.args.from c.args.count (of-none c.args.self.now c.if-self.false)
