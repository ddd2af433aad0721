use Rattle.law_programs.proofs.BareLemmas.{kept_addresses_are_alike}
use Rattle.law_programs.proofs.lists.kept_addresses_are_alike.Goals as goal

pub returns : goal.returns
returns c = kept_addresses_are_alike
