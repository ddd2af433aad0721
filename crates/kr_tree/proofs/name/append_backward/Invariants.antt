use Rattle.std.proofs.Common.{◌≡◌, ◌++◌, reverse}
use Rattle.kr_tree.proofs.name.append_backward.Given as goal

abbrev pub invariant-loop-byte : goal.invariant-loop-byte
invariant-loop-byte l = l.backward.items ++ reverse l.byte-iterator.iter.rest.now ≡ l.fn.backward.items ++ reverse l.name
