use Rattle.kr_view.proofs.HostReachLemmas.{reaches_are_sound}
use Rattle.kr_view.proofs.reach_laws.reaches_are_sound.Goals as goal

pub returns : goal.returns
returns c = reaches_are_sound
