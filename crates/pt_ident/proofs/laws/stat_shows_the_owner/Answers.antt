use Rattle.pt_ident.proofs.StatLemmas.{stat_shows_the_owner}
use Rattle.pt_ident.proofs.laws.stat_shows_the_owner.Goals as goal

pub returns : goal.returns
returns c = stat_shows_the_owner
