use Rattle.law_programs.proofs.ReadLemmas.{script_lists_are_read}
use Rattle.law_programs.proofs.reading.script_lists_are_read.Goals as goal

pub returns : goal.returns
returns c = script_lists_are_read c.shelves_hold_their_items.ensures
