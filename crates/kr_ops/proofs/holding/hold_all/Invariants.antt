use Rattle.std.proofs.Common.{◌≡◌}
use Rattle.law_lawful.specs.kr_files.Descriptors.{meanings}
use Rattle.law_lawful.specs.kr_model.Applied.{held_for}
use Rattle.kr_ops.proofs.holding.hold_all.Given as goal

abbrev pub invariant-loop-fd : goal.invariant-loop-fd
invariant-loop-fd g l = l.tree ≡ held_for (meanings l.descs) l.files.table l.fd l.initial.tree
