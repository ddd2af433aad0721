use Rattle.kr_ops.proofs.UseLemmas.{sound-of}
use Rattle.kr_ops.proofs.laws.lawful_states_are_sound.Goals as goal

pub returns : goal.returns
returns g c = sound-of
