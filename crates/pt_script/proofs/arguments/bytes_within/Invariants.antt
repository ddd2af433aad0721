use Rattle.std.proofs.Common.{◌≡◌, ◌+◌, drop}
use Rattle.pt_args.specs.kr_calls.Expansion.{bytes_with_ends}
use Rattle.pt_script.proofs.arguments.bytes_within.Given as goal

abbrev pub invariant-loop-k : goal.invariant-loop-k
invariant-loop-k l = l.left + bytes_with_ends l.texts ≡ l.most + bytes_with_ends (drop l.k l.texts)
