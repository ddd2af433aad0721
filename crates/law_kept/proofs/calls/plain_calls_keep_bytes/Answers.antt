use Rattle.law_kept.proofs.CallLemmas.{plain-calls-keep-bytes}
use Rattle.law_kept.proofs.calls.plain_calls_keep_bytes.Goals as goal

pub returns : goal.returns
returns c = plain-calls-keep-bytes
