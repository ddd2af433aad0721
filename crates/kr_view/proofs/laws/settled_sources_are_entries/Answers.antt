use Rattle.kr_view.proofs.TableLemmas.{settled_entry}
use Rattle.kr_view.proofs.laws.settled_sources_are_entries.Goals as goal

pub returns : goal.returns
returns c = settled_entry
