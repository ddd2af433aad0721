use Rattle.kr_loose.proofs.PartingLemmas.{runs-part-at-calls}
use Rattle.kr_loose.proofs.parting.runs_part_at_calls.Goals as goal

pub returns : goal.returns
returns c = runs-part-at-calls
