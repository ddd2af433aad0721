use Rattle.law_kept.proofs.CallLemmas.{calls-keep-bytes}
use Rattle.law_kept.proofs.calls.calls_keep_bytes.Goals as goal

pub returns : goal.returns
returns c = calls-keep-bytes
