use Rattle.kr_seen.proofs.LookLemmas.{looks-are-numbered}
use Rattle.kr_seen.proofs.mounts.looks_are_numbered.Goals as goal

pub returns : goal.returns
returns g c = looks-are-numbered
