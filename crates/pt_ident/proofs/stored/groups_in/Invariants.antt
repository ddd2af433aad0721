use Rattle.std.proofs.Common.{◌≡◌, ◌++◌, length}
use Rattle.pt_ident.specs.Identity.{numbers_in}
use Rattle.pt_ident.proofs.stored.groups_in.Given as goal

abbrev pub invariant-loop-left : goal.invariant-loop-left
invariant-loop-left l = l.groups.items ++ numbers_in l.left ≡ numbers_in l.bytes

abbrev pub decreases-loop-left : goal.decreases-loop-left
decreases-loop-left l = length l.left
