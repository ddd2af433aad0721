use Rattle.std.proofs.Common.{◌≡◌, ◌≤◌, ◌+◌, drop}
use Rattle.kr_seen.specs.kr_model.Pieces.{asked}
use Rattle.kr_transfer.specs.Moving.{told}
use Rattle.kr_transfer.proofs.pieces.total.Given as goal

abbrev pub invariant-loop-piece : goal.invariant-loop-piece
invariant-loop-piece l = record { within : l.sum ≤ 9223372036854775807; counted : l.sum + asked (told (drop l.piece-index l.pieces)) ≡ asked (told l.pieces) }
