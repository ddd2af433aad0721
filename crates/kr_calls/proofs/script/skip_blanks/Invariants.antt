use Rattle.std.proofs.Common.{◌≡◌, drop}
use Rattle.kr_calls.specs.Scripts.{without_leading_blanks}
use Rattle.kr_calls.proofs.script.skip_blanks.Given as goal

abbrev pub invariant-loop-at : goal.invariant-loop-at
invariant-loop-at l = without_leading_blanks (drop l.at l.bytes) ≡ without_leading_blanks l.bytes
