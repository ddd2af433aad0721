use Rattle.std.proofs.Common.{◌≡◌, ◌+◌, length}
use Rattle.pt_bind.specs.pr_base.Parts.{parts_left}
use Rattle.pt_bind.specs.pr_base.Paths.{parts_of}
use Rattle.kr_mounts.proofs.order.count.Given as goal

abbrev pub invariant-loop-name : goal.invariant-loop-name
invariant-loop-name l = l.names + length (parts_left l._name-iterator) ≡ length (parts_of l.text)
