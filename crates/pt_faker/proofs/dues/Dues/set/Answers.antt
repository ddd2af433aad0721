use Rattle.std.proofs.Common.{◌∙◌, ap, sym}
use Rattle.elf_load.proofs.pr_base.BTreeLemmas.{inserted, removed}
use Rattle.pt_faker.specs.Faking.{dues_with}
use Rattle.pt_faker.proofs.dues.Dues.set.Goals as goal

pub returns-in_ok-insert-in-Some : goal.returns-in_ok-insert-in-Some
returns-in_ok-insert-in-Some c =
    inserted c.self.inside.kept c.insert.new.self c.args.self.now c.args.pid c.in-Some.due c.self.view_is c.in_ok-insert-in-Some.ensures.updates
    ∙ sym (ap (λ due. dues_with c.args.pid due c.args.self.now) c.in-Some.is)

pub returns-in-None : goal.returns-in-None
returns-in-None c =
    removed c.self.inside.kept c.remove-due.new.self c.args.self.now c.args.pid c.self.view_is c.remove-due.ensures.updates
    ∙ sym (ap (λ due. dues_with c.args.pid due c.args.self.now) c.in-None.is)
