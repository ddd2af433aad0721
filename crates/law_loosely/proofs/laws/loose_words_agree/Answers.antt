use Rattle.law_loosely.proofs.LooseWordLemmas.{loose-words-agree}
use Rattle.law_loosely.proofs.laws.loose_words_agree.Goals as goal

pub returns : goal.returns
returns c = loose-words-agree c.texts_are_read_back.ensures c.shelves_hold_their_items.ensures c.tracers_are_local.ensures
