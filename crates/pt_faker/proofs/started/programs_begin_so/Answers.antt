use Rattle.pt_faker.proofs.StartedLemmas.{begin_so}
use Rattle.pt_faker.proofs.started.programs_begin_so.Goals as goal

pub returns : goal.returns
returns c = begin_so
