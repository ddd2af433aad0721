use Rattle.law_plans.proofs.EditLemmas.{shelved_texts_are_short}
use Rattle.law_plans.proofs.short.shelved_texts_are_short.Goals as goal

pub returns : goal.returns
returns c = shelved_texts_are_short
