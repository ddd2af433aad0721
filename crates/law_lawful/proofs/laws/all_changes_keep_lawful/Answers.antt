use Rattle.law_lawful.proofs.ChangeLemmas.{all-changes-keep}
use Rattle.law_lawful.proofs.laws.all_changes_keep_lawful.Goals as goal

pub returns : goal.returns
returns g c = all-changes-keep _
