use Rattle.kr_files.proofs.DescriptorLemmas.{lowest_is_least}
use Rattle.kr_files.proofs.laws.lowest_free_is_the_least.Goals as goal

pub returns-clause-descriptors : goal.returns-clause-descriptors
returns-clause-descriptors c = lowest_is_least

pub returns-clause-named : goal.returns-clause-named
returns-clause-named c = lowest_is_least
