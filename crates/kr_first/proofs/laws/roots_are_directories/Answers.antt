use Rattle.kr_first.proofs.LawLemmas.{roots-are-directories}
use Rattle.kr_first.proofs.laws.roots_are_directories.Goals as goal

pub returns : goal.returns
returns c = roots-are-directories
