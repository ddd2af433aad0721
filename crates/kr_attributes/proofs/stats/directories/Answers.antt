use Rattle.kr_attributes.proofs.NodeLemmas.{few-directories}
use Rattle.kr_attributes.proofs.stats.directories.Goals as goal

pub returns-clause-few : goal.returns-clause-few
returns-clause-few g c = few-directories c.args.state.now.tree c.trees_are_kept.ensures.kept c.args.ino c.directories.result c.directories.ensures
