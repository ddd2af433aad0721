use Rattle.kr_seen.proofs.LookLemmas.{known-is-numbered}
use Rattle.kr_seen.proofs.mounts.known_is_numbered.Goals as goal

pub returns : goal.returns
returns g c = known-is-numbered
