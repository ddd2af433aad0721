use Rattle.pt_faker.proofs.FakingLemmas.{others_stay}
use Rattle.pt_faker.proofs.laws.others_stay.Goals as goal

pub returns : goal.returns
returns c = others_stay
