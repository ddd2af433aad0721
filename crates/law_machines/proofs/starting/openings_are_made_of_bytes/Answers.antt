use Rattle.law_machines.proofs.TableLemmas.{openings-are-made-of-bytes}
use Rattle.law_machines.proofs.starting.openings_are_made_of_bytes.Goals as goal

pub returns : goal.returns
returns c = openings-are-made-of-bytes
