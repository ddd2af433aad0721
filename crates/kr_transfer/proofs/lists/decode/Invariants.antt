use Rattle.std.proofs.Common.{◌≡◌, ◌*◌, ◌-◌, ◌++◌, drop}
use Rattle.kr_seen.specs.kr_model.Pieces.{pieces_of}
use Rattle.kr_transfer.specs.Moving.{told}
use Rattle.kr_transfer.proofs.lists.decode.Given as goal

abbrev pub invariant-loop-i : goal.invariant-loop-i
invariant-loop-i l = told l.pieces.items ++ pieces_of (l.count - l.i) (drop (16 * l.i) l.bytes) ≡ pieces_of l.count l.bytes
