use Rattle.kr_seen.proofs.DirectoryLemmas.{shows-the-directory}
use Rattle.kr_seen.proofs.laws.shows_the_directory.Goals as goal

pub returns : goal.returns
returns g c = shows-the-directory
