use Rattle.std.proofs.Common.{sym, subst}
use Rattle.kr_text.specs.Drawn.{IsDrawn}
use Rattle.kr_text.proofs.DrawnLemmas.{put_drawn}
use Rattle.kr_text.proofs.steps.put.Goals as goal

pub returns-in-Ok-clause-drawn : goal.returns-in-Ok-clause-drawn
returns-in-Ok-clause-drawn c =
    subst IsDrawn (sym c.in-Ok.ensures.ok)
    (put_drawn c.args.tree.now c.args.spot.dir c.args.spot.name.now c.args.owner.mode c.args.owner.uid c.args.owner.gid c.args.node c.requires.directory c.trees_are_kept.ensures.kept c.requires.drawn)
