use Rattle.std.proofs.Common.{◌≡◌}
use Rattle.pr_base.specs.Paths.{last_kind}
use Rattle.pr_base.specs.Parts.{path_of, parts_left}
use Rattle.pr_base.proofs.PathLemmas.{ending}
use Rattle.pr_base.proofs.path.Parts.last.Given as goal

-- what is read and what is left end as the whole path does
abbrev pub invariant-loop-part : goal.invariant-loop-part
invariant-loop-part l = ending l.last (parts_left l.part-iterator) ≡ last_kind (path_of l.self)
