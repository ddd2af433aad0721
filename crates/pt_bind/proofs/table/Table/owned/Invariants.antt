use Rattle.pr_base.specs.Parts.{parts_left}
use Rattle.pr_base.specs.Paths.{parts_of}
use Rattle.pt_bind.specs.Kept.{IsReadTo}
use Rattle.pt_bind.specs.Binding.{rows_of}
use Rattle.pt_bind.proofs.table.Table.owned.Given as goal

abbrev pub invariant-loop-part : goal.invariant-loop-part
invariant-loop-part l = IsReadTo (rows_of l.self) (parts_of l.guest) (parts_left l.part-iterator) l.owned.number l.owned.end l.end
