use Rattle.kr_calm.proofs.ChangeLemmas.{refused_calls_break_none}
use Rattle.kr_calm.proofs.laws.refused_calls_break_none.Goals as goal

pub returns : goal.returns
returns g c = λ computing mounts pid table request seen k m s kind other refused. refused_calls_break_none computing mounts pid table request seen k m s kind other refused
