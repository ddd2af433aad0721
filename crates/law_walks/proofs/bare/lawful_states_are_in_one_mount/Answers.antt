use Rattle.law_walks.proofs.OneMountLemmas.{lawful_states_are_in_one_mount}
use Rattle.law_walks.proofs.bare.lawful_states_are_in_one_mount.Goals as goal

pub returns : goal.returns
returns c = lawful_states_are_in_one_mount
