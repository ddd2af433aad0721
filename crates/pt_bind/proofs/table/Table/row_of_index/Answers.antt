use Rattle.std.proofs.Common.{subst}
use Rattle.pt_bind.specs.Binding.{AreBounds}
use Rattle.pt_bind.proofs.table.Table.row_of_index.Goals as goal

pub returns-clause-kept : goal.returns-clause-kept
returns-clause-kept c = subst AreBounds c.self.view_is c.self.invariant.0
