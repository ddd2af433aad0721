use Rattle.std.proofs.Common.{◌≡◌, drop}
use Rattle.kr_seen.specs.kr_model.Pieces.{cut_to}
use Rattle.kr_seen.specs.kr_ops.Meaning.{meaning}
use Rattle.kr_seen.specs.PerformedRows.{memory_of}
use Rattle.kr_transfer.specs.Moving.{all_allowed, told}
use Rattle.kr_transfer.proofs.moving.may_use_all.Given as goal

abbrev pub invariant-loop-piece : goal.invariant-loop-piece
invariant-loop-piece g l =
    all_allowed (memory_of l.pid (meaning l.state)).pages l.what (cut_to l.n (told l.pieces)) ≡ all_allowed (memory_of l.pid (meaning l.state)).pages l.what (cut_to l.left (told (drop l.piece-index l.pieces)))
