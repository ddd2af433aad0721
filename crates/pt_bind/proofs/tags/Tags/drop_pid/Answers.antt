use Rattle.pr_base.proofs.BTreeLemmas.{removed}
use Rattle.pt_bind.proofs.tags.Tags.drop_pid.Goals as goal

pub returns : goal.returns
returns c = removed c.self.inside.by_pid c.remove-gone.new.self c.args.self.now c.args.pid c.self.view_is c.remove-gone.ensures.updates
