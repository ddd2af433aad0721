use Rattle.law_walks.proofs.BareStateLemmas.{peeks_are_bare}
use Rattle.law_walks.proofs.bare.peeks_are_bare.Goals as goal

pub returns : goal.returns
returns g c = peeks_are_bare _ _
