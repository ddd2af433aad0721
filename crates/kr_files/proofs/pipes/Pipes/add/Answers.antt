use Rattle.std.proofs.Common.{◌∙◌, ap}
use Rattle.std.specs.FinMap as map
use Rattle.kr_tree.proofs.pr_base.BTreeLemmas.{inserted}
use Rattle.kr_files.proofs.pipes.Pipes.add.Goals as goal

pub returns-clause-ok : goal.returns-clause-ok
returns-clause-ok c =
    inserted c.self.inside.pipes c.insert.new.self c.args.self.now c.args.number c.new.result c.self.view_is c.in_ok-insert.ensures.updates
    ∙ ap (map.insert c.args.self.now c.args.number) c.new.ensures
