use Rattle.std.proofs.Common.{◌∙◌, ap}
use Rattle.pr_base.specs.Paths.{parts_of}
use Rattle.pr_base.specs.declared.path.Last.TheVariants.{Root}
use Rattle.pr_base.proofs.PathLemmas.{ending, ending_from_root}
use Rattle.pr_base.proofs.path.Parts.last.Goals as goal

pub loop-part-init : goal.loop-part-init
loop-part-init c =
    let begun = ap parts_of c.into_iter-part-iterator.ensures.into_iter_gives in
    ap (ending Root) begun ∙ ending_from_root (parts_of c.args.self.now.path.now)
