use Rattle.std.proofs.Common.{◌∙◌}
use Rattle.kr_tree.proofs.pr_base.BTreeLemmas.{get-view}
use Rattle.kr_files.proofs.pipes.Pipes.get.Goals as goal

pub returns : goal.returns
returns c = c.get.ensures.value ∙ get-view c.self.inside.pipes.entries c.args.self.now c.args.number c.self.view_is
