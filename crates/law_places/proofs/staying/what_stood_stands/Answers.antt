use Rattle.law_places.proofs.SpaceLemmas.{what_stood_stands}
use Rattle.law_places.proofs.staying.what_stood_stands.Goals as goal

pub returns : goal.returns
returns c = what_stood_stands
