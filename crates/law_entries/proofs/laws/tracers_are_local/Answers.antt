use Rattle.law_entries.proofs.ExecvePlans.{execve-plans-last}
use Rattle.law_entries.proofs.LocalLemmas.{tracers-are-local}
use Rattle.law_entries.proofs.laws.tracers_are_local.Goals as goal

pub returns : goal.returns
returns c = tracers-are-local execve-plans-last
