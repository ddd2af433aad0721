use Rattle.std.proofs.Common.{◌≡◌, ◌++◌, length}
use Rattle.kr_text.specs.Canonical.{escaped}
use Rattle.kr_text.proofs.written.escaped.Given as goal

abbrev pub invariant-loop-byte : goal.invariant-loop-byte
invariant-loop-byte l = l.out.items ++ escaped l.rest ≡ l.fn.out.items ++ escaped l.fn.bytes

abbrev pub decreases-loop-byte : goal.decreases-loop-byte
decreases-loop-byte l = length l.rest
