use Rattle.law_loosely.proofs.TurnwiseLemmas.{calm-runs-last}
use Rattle.law_loosely.proofs.laws.calm_runs_last.Goals as goal

pub returns : goal.returns
returns c = calm-runs-last c.texts_are_read_back.ensures c.shelves_hold_their_items.ensures
