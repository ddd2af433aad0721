use Rattle.std.proofs.Common.{◌≡◌, ◌++◌, drop, take}
use Rattle.kr_calls.specs.Scripts.{before, is_newline}
use Rattle.kr_calls.proofs.script.up_to_newline.Given as goal

abbrev pub invariant-loop-at : goal.invariant-loop-at
invariant-loop-at l = take l.at l.bytes ++ before is_newline (drop l.at l.bytes) ≡ before is_newline l.bytes
