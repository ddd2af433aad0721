use Rattle.kr_model.proofs.LineLemmas.{keep_to_lines}
use Rattle.kr_model.proofs.laws.calls_keep_to_their_lines.Goals as goal

pub returns : goal.returns
returns c = keep_to_lines
