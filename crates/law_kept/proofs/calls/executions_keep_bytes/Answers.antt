use Rattle.law_kept.proofs.CallLemmas.{executions-keep-bytes}
use Rattle.law_kept.proofs.calls.executions_keep_bytes.Goals as goal

pub returns : goal.returns
returns c = executions-keep-bytes
