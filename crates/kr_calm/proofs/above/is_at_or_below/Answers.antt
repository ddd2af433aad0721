use Rattle.kr_calm.proofs.AboveLemmas.{as-found}
use Rattle.kr_calm.proofs.above.is_at_or_below.Goals as goal

pub returns : goal.returns
returns c = as-found c.args.tree.now c.args.top c.args.dir c.is_below.result c.trees_are_kept.ensures.kept.sound c.is_below.ensures
