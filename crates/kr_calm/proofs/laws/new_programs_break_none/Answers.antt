use Rattle.kr_calm.proofs.ChangeLemmas.{new_programs_break_none}
use Rattle.kr_calm.proofs.laws.new_programs_break_none.Goals as goal

pub returns : goal.returns
returns g c = λ computing mounts pid table s image brk from host dir name. new_programs_break_none computing mounts pid table s image brk from host dir name
