use Rattle.pt_faker.proofs.FakingLemmas.{entries_forget}
use Rattle.pt_faker.proofs.laws.entries_forget.Goals as goal

pub returns : goal.returns
returns c = entries_forget
