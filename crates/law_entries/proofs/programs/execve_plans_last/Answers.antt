use Rattle.law_entries.proofs.ExecvePlans.{execve-plans-last}
use Rattle.law_entries.proofs.programs.execve_plans_last.Goals as goal

pub returns : goal.returns
returns c = execve-plans-last
