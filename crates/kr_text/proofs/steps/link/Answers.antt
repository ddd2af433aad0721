use Rattle.std.proofs.Common.{sym, subst}
use Rattle.kr_text.specs.Drawn.{IsDrawn}
use Rattle.kr_text.proofs.DrawnLemmas.{linked_drawn}
use Rattle.kr_text.proofs.steps.link.Goals as goal

pub returns-in-Ok-clause-drawn : goal.returns-in-Ok-clause-drawn
returns-in-Ok-clause-drawn c =
    subst IsDrawn (sym c.in-Ok.ensures.ok)
    (linked_drawn c.args.tree.now c.args.spot.dir c.args.file c.args.spot.name.now c.requires.directory c.requires.drawn)
