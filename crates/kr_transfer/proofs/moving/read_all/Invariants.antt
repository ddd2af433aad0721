use Rattle.std.proofs.Common.{◌≡◌, ◌+◌, ◌++◌, ℕ, List, true, drop, length}
use Rattle.kr_seen.specs.rv_mem.declared.rights.Use.TheVariants.{Read}
use Rattle.kr_seen.specs.kr_model.Pieces.{asked, cut_to, read_all}
use Rattle.kr_seen.specs.kr_model.Reply.{Replying}
use Rattle.kr_seen.specs.kr_ops.Meaning.{meaning}
use Rattle.kr_seen.specs.PerformedRows.{memory_of}
use Rattle.kr_seen.specs.Using.{HasComeTo}
use Rattle.kr_transfer.specs.Moving.{OnlyReads, all_allowed, told}
use Rattle.kr_transfer.proofs.moving.read_all.Given as goal

abbrev pub invariant-loop-piece : goal.invariant-loop-piece
invariant-loop-piece g l = record {
  reads : OnlyReads l.pid l.fn.state l.state;
  allowed : all_allowed (memory_of l.pid (meaning l.state)).pages Read (cut_to l.left (told (drop l.piece-index l.pieces))) ≡ true;
  comes : (next : List ℕ → Replying) → HasComeTo l.pid (read_all (cut_to l.n (told l.pieces)) next) l.fn.state (read_all (cut_to l.left (told (drop l.piece-index l.pieces))) (λ others. next (l.bytes ++ others))) l.state;
  count : length l.bytes + asked (cut_to l.left (told (drop l.piece-index l.pieces))) ≡ asked (cut_to l.n (told l.pieces));
}
