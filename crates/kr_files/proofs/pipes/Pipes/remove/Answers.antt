use Rattle.kr_tree.proofs.pr_base.BTreeLemmas.{removed}
use Rattle.kr_files.proofs.pipes.Pipes.remove.Goals as goal

pub returns : goal.returns
returns c = removed c.self.inside.pipes c.remove-pipe.new.self c.args.self.now c.args.number c.self.view_is c.remove-pipe.ensures.updates
