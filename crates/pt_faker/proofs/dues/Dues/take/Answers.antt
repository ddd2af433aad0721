use Rattle.std.proofs.Common.{◌∙◌}
use Rattle.elf_load.proofs.pr_base.BTreeLemmas.{get-view, removed}
use Rattle.pt_faker.proofs.dues.Dues.take.Goals as goal

pub returns-clause-due : goal.returns-clause-due
returns-clause-due c = c.remove.ensures.value ∙ get-view c.self.inside.kept.entries c.args.self.now c.args.pid c.self.view_is

pub returns-clause-taken : goal.returns-clause-taken
returns-clause-taken c = removed c.self.inside.kept c.remove.new.self c.args.self.now c.args.pid c.self.view_is c.remove.ensures.updates
