use Rattle.pr_base.proofs.PathLemmas.{texts_have_their_names}
use Rattle.pr_base.proofs.laws.texts_have_their_names.Goals as goal

pub returns : goal.returns
returns c = texts_have_their_names
