use Rattle.law_kept.proofs.ChangeLemmas.{changes-keep-bytes}
use Rattle.law_kept.proofs.laws.changes_keep_bytes.Goals as goal

pub returns : goal.returns
returns g c = changes-keep-bytes _
