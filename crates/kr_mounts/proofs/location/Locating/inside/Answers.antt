use Rattle.std.proofs.Common.{true, sym, ap, subst}
use Rattle.pt_bind.specs.pr_base.Paths.{Component}
use Rattle.kr_walk.specs.kr_view.Component.{inside}
use Rattle.kr_walk.specs.kr_view.View.{node_in}
use Rattle.kr_mounts.specs.Spots.{IsShownAt, alone_around}
use Rattle.kr_mounts.proofs.location.Locating.inside.Goals as goal

pub returns-in-Dot : goal.returns-in-Dot
returns-in-Dot c = (true, ap (inside (alone_around c.args.self.now) (node_in 0 c.args.at)) (sym c.in-Dot.ensures))

pub returns-in-DotDot : goal.returns-in-DotDot
returns-in-DotDot c =
    let P : Component → Type 0 = λ d. IsShownAt (inside (alone_around c.args.self.now) (node_in 0 c.args.at) d) c.above.result in
    subst P c.in-DotDot.ensures c.above.ensures

pub returns-in-Name : goal.returns-in-Name
returns-in-Name c =
    let P : Component → Type 0 = λ d. IsShownAt (inside (alone_around c.args.self.now) (node_in 0 c.args.at) d) c.named.result in
    subst P c.in-Name.ensures c.named.ensures
