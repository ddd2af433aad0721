use Rattle.core_tests.proofs.ReadyLemmas.{listed-ready}
use Rattle.core_tests.proofs.stage.listed.Goals as goal

pub returns : goal.returns
returns c = listed-ready _ c.args.listing.now c.in-Ok.tree c.in-Ok.user c.in-Ok.ensures.listing c.in-Ok.ensures.drawn c.trees_are_kept.ensures.kept
