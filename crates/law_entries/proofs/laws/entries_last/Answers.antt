use Rattle.law_entries.proofs.EntryLemmas.{entries-last}
use Rattle.law_entries.proofs.ExecvePlans.{execve-plans-last}
use Rattle.law_entries.proofs.laws.entries_last.Goals as goal

pub returns : goal.returns
returns c = entries-last execve-plans-last
