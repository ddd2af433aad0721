use Rattle.std.proofs.Common.{◌≡◌, take}
use Rattle.kr_text.specs.Canonical.{escaped}
use Rattle.kr_text.proofs.written.split_plain.Given as goal

abbrev pub invariant-loop-at : goal.invariant-loop-at
invariant-loop-at l = escaped (take l.at l.bytes) ≡ take l.at l.bytes
