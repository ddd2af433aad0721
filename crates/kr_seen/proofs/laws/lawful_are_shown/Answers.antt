use Rattle.kr_seen.proofs.StandingLemmas.{lawful-are-shown}
use Rattle.kr_seen.proofs.laws.lawful_are_shown.Goals as goal

pub returns : goal.returns
returns g c = lawful-are-shown
