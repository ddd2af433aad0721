use Rattle.pt_faker.proofs.StartedLemmas.{are_put}
use Rattle.pt_faker.proofs.started.numbers_are_put.Goals as goal

pub returns : goal.returns
returns c = are_put
