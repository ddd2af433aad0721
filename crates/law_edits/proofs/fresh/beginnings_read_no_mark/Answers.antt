use Rattle.law_edits.proofs.FreshLemmas.{beginnings_read_no_mark}
use Rattle.law_edits.proofs.fresh.beginnings_read_no_mark.Goals as goal

pub returns : goal.returns
returns c = beginnings_read_no_mark
