use Rattle.pt_args.proofs.BackLemmas.{texts_are_read_back}
use Rattle.pt_args.proofs.laws.texts_are_read_back.Goals as goal

pub returns : goal.returns
returns c = texts_are_read_back
