use Rattle.pt_faker.proofs.StartedLemmas.{are_as_loaded}
use Rattle.pt_faker.proofs.started.programs_are_as_loaded.Goals as goal

pub returns : goal.returns
returns c = are_as_loaded
