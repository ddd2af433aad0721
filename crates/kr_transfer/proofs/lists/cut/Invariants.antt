use Rattle.std.proofs.Common.{◌≡◌, ◌++◌, drop}
use Rattle.kr_seen.specs.kr_model.Pieces.{cut_to}
use Rattle.kr_transfer.specs.Moving.{told}
use Rattle.kr_transfer.proofs.lists.cut.Given as goal

abbrev pub invariant-loop-piece : goal.invariant-loop-piece
invariant-loop-piece l = told l.cut.items ++ cut_to l.left (told (drop l.piece-index l.pieces)) ≡ cut_to l.n (told l.pieces)
