use Rattle.pt_faker.proofs.FakingLemmas.{come_and_go}
use Rattle.pt_faker.proofs.laws.come_and_go.Goals as goal

pub returns : goal.returns
returns c = come_and_go
