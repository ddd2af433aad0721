use Rattle.std.proofs.Common.{◌≢◌, take, All}
use Rattle.kr_text.proofs.pieces.split_at_first.Given as goal

abbrev pub invariant-loop-at : goal.invariant-loop-at
invariant-loop-at l = All (λ b. b ≢ l.separator) (take l.at l.bytes)
