use Rattle.std.proofs.Common.{◌-◌}
use Rattle.kr_inode.proofs.SameLemmas.{Walked}
use Rattle.kr_inode.proofs.entries.Entries.same.Given as goal

abbrev pub invariant-loop-serial : goal.invariant-loop-serial
invariant-loop-serial l = Walked l.last l.self.list l.other.list l.self.next l.other.next

abbrev pub decreases-loop-serial : goal.decreases-loop-serial
decreases-loop-serial l = l.self.next - l.last
