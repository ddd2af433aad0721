use Rattle.law_machines.proofs.FakerLemmas.{fakers-watch-bytes}
use Rattle.law_machines.proofs.watchers.fakers_watch_bytes.Goals as goal

pub returns : goal.returns
returns c = fakers-watch-bytes
