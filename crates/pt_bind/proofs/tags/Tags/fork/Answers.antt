use Rattle.std.specs.FinMap as map
use Rattle.std.proofs.Common.{◌∙◌, ap}
use Rattle.pr_base.proofs.BTreeLemmas.{inserted}
use Rattle.pt_bind.proofs.tags.Tags.fork.Goals as goal

pub returns-clause-ok : goal.returns-clause-ok
returns-clause-ok c =
    inserted c.self.inside.by_pid c.insert.new.self c.args.self.now c.args.to c.in_ok-tags.tags c.self.view_is c.in_ok-insert.ensures.updates
    ∙ ap (map.insert c.args.self.now c.args.to) c.in_ok-tags.ensures
