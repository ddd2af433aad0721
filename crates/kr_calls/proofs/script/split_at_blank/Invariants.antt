use Rattle.std.proofs.Common.{◌≡◌, ◌++◌, drop, take}
use Rattle.kr_calls.specs.Scripts.{before, is_blank, from_blank}
use Rattle.kr_calls.proofs.script.split_at_blank.Given as goal

abbrev pub invariant-loop-at : goal.invariant-loop-at
invariant-loop-at l = record {
  before : take l.at l.bytes ++ before is_blank (drop l.at l.bytes) ≡ before is_blank l.bytes;
  from : from_blank (drop l.at l.bytes) ≡ from_blank l.bytes;
}
