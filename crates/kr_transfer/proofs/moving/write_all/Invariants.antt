use Rattle.std.proofs.Common.{◌≡◌, ◌≤◌, ◌-◌, true, drop, length}
use Rattle.kr_seen.specs.rv_mem.declared.rights.Use.TheVariants.{Write}
use Rattle.kr_seen.specs.kr_model.Pieces.{cut_to, laid_into, write_all}
use Rattle.kr_seen.specs.kr_model.Reply.{Replying}
use Rattle.kr_seen.specs.kr_ops.Meaning.{meaning}
use Rattle.kr_seen.specs.PerformedRows.{memory_of}
use Rattle.kr_seen.specs.Using.{HasComeTo}
use Rattle.kr_transfer.specs.Moving.{LeavesOthers, all_allowed, told}
use Rattle.kr_transfer.proofs.moving.write_all.Given as goal

abbrev pub invariant-loop-piece : goal.invariant-loop-piece
invariant-loop-piece g l = record {
  within : l.done ≤ length l.bytes;
  leaves : LeavesOthers l.pid l.fn.state l.state;
  allowed : all_allowed (memory_of l.pid (meaning l.state)).pages Write (cut_to (length l.bytes - l.done) (told (drop l.piece-index l.pieces))) ≡ true;
  comes : (next : Replying) → HasComeTo l.pid (write_all (laid_into (cut_to (length l.bytes) (told l.pieces)) l.bytes) next) l.fn.state (write_all (laid_into (cut_to (length l.bytes - l.done) (told (drop l.piece-index l.pieces))) (drop l.done l.bytes)) next) l.state;
}
