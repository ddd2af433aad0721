use Rattle.pr_base.proofs.PathLemmas.{texts_are_absolute}
use Rattle.pr_base.proofs.laws.texts_are_absolute.Goals as goal

pub returns : goal.returns
returns c = texts_are_absolute
