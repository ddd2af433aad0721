use Rattle.kr_turns.proofs.AgreeLemmas.{plain_calls_leave_shape}
use Rattle.kr_turns.proofs.laws.plain_calls_leave_shape.Goals as goal

pub returns : goal.returns
returns c = plain_calls_leave_shape
