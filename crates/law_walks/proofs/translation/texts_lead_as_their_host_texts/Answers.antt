use Rattle.law_walks.proofs.TableLemmas.{texts_lead_as_their_host_texts}
use Rattle.law_walks.proofs.translation.texts_lead_as_their_host_texts.Goals as goal

pub returns : goal.returns
returns c = texts_lead_as_their_host_texts
