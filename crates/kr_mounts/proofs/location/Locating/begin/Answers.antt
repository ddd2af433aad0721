use Rattle.std.proofs.Common.{◌∙◌, ap, sym}
use Rattle.std.specs.Bool.{if◌then◌else◌}
use Rattle.kr_mounts.specs.Locations.{alone, locating}
use Rattle.kr_mounts.specs.Spots.{spot_of}
use Rattle.pt_bind.specs.pr_base.Paths.{is_absolute}
use Rattle.kr_mounts.proofs.location.Locating.begin.Goals as goal

pub returns-then-absolute-clause-spot : goal.returns-then-absolute-clause-spot
returns-then-absolute-clause-spot c =
    let root = (locating c.args.self.now.tree.now c.args.self.now.user (alone c.args.self.now.root)).root in
    c.start.ensures.spot ∙ ap (λ b. if b then root else spot_of c.args.spot) (sym c.if-absolute.true ∙ c.absolute.ensures ∙ ap is_absolute c.components.ensures)

pub returns-else-absolute-clause-spot : goal.returns-else-absolute-clause-spot
returns-else-absolute-clause-spot c =
    let root = (locating c.args.self.now.tree.now c.args.self.now.user (alone c.args.self.now.root)).root in
    ap (λ b. if b then root else spot_of c.args.spot) (sym c.if-absolute.false ∙ c.absolute.ensures ∙ ap is_absolute c.components.ensures)
