use Rattle.pt_faker.proofs.FakingLemmas.{exits_follow_entries}
use Rattle.pt_faker.proofs.laws.exits_follow_entries.Goals as goal

pub returns : goal.returns
returns c = exits_follow_entries
