use Rattle.std.proofs.Common.{length}
use Rattle.pt_tracer.proofs.script.+room_behind.Given as goal

abbrev pub decreases-room_behind : goal.decreases-room_behind
decreases-room_behind l = length l.texts.now
