use Rattle.std.proofs.Common.{◌∙◌}
use Rattle.pt_bind.proofs.RowLemmas.{points_are}
use Rattle.pt_bind.proofs.table.Table.is_point.Goals as goal

pub returns : goal.returns
returns c = c.has_point.ensures.point ∙ points_are c.args.self.now c.has_point.ensures.kept c.args.host.now c.requires
