use Rattle.kr_mounts.proofs.WayLemmas.{numbers_left, serials_left}
use Rattle.kr_mounts.proofs.point.Way.put.Goals as goal

pub add-requires-clause-numbers : goal.add-requires-clause-numbers
add-requires-clause-numbers c = numbers_left c.args.self.now.user c.args.tree.now c.args.dir c.args.name.now c.args.is_dir c.trees_are_kept.ensures.kept.sound c.requires.numbers

pub add-requires-clause-serials : goal.add-requires-clause-serials
add-requires-clause-serials c = serials_left c.args.self.now.user c.args.tree.now c.args.dir c.args.name.now c.args.is_dir c.trees_are_kept.ensures.kept.sound c.requires.numbers
