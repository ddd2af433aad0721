use Rattle.law_walks.proofs.TableLemmas.{texts_are_owned}
use Rattle.law_walks.proofs.translation.texts_are_owned.Goals as goal

pub returns : goal.returns
returns c = texts_are_owned
