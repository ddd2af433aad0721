use Rattle.std.proofs.Common.{◌≡◌, ◌≤◌, length, take}
use Rattle.kr_calls.specs.Scripts.{without_trailing_blanks}
use Rattle.kr_calls.proofs.script.skip_last_blanks.Given as goal

abbrev pub invariant-loop-end : goal.invariant-loop-end
invariant-loop-end l = record {
  within : l.end ≤ length l.bytes;
  same : without_trailing_blanks (take l.end l.bytes) ≡ without_trailing_blanks l.bytes;
}

abbrev pub decreases-loop-end : goal.decreases-loop-end
decreases-loop-end l = l.end
