use Rattle.law_loose.proofs.UnwatchedLemmas.{unwatched-runs-are-their-images}
use Rattle.law_loose.proofs.laws.unwatched_runs_are_their_images.Goals as goal

pub returns : goal.returns
returns g c = unwatched-runs-are-their-images _
