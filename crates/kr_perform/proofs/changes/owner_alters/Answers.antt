use Rattle.std.proofs.Common.{◌∙◌, ap, sym}
use Rattle.law_allowed.specs.kr_model.Known.{known}
use Rattle.law_allowed.specs.kr_model.State.{image_layout}
use Rattle.kr_rows.specs.kr_ops.Meaning.{meaning}
use Rattle.law_steady.specs.Ahead.{owner_alters}
use Rattle.kr_perform.proofs.changes.owner_alters.Goals as goal

pub returns-in-Node : goal.returns-in-Node
returns-in-Node g c = λ pid.
    let s = c.args.state.now in
    c.node_owner_alters.ensures pid ∙ ap (owner_alters s.tree (known image_layout pid (meaning s)) c.args.uid c.args.gid) (sym c.in-Node.is)
