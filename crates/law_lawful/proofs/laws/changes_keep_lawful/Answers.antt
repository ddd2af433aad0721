use Rattle.law_lawful.proofs.ChangeLemmas.{changes-keep}
use Rattle.law_lawful.proofs.laws.changes_keep_lawful.Goals as goal

pub returns : goal.returns
returns g c = changes-keep _
