use Rattle.law_machines.proofs.TracerLemmas.{tracers-watch-bytes}
use Rattle.law_machines.proofs.watchers.tracers_watch_bytes.Goals as goal

pub returns : goal.returns
returns c = tracers-watch-bytes
