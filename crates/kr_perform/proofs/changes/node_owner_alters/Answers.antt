use Rattle.std.proofs.Common.{ap, false, ◌∙◌}
use Rattle.std.specs.Prelude.{◌==◌, ◌&&◌, not, nat_lt, if◌then◌else◌}
use Rattle.kr_transfer.specs.kr_inode.declared.node.Meta.{Meta}
use Rattle.law_allowed.specs.kr_model.AttributeRows.{or_old, unchanged}
use Rattle.kr_rows.specs.kr_ops.Meaning.{meaning}
use Rattle.kr_attributes.proofs.NodeLemmas.{meta-gone, meta-there}
use Rattle.kr_perform.proofs.ChangeLemmas.{owner-gone, owner-there}
use Rattle.kr_perform.proofs.changes.node_owner_alters.Goals as goal

pub returns-in-Some : goal.returns-in-Some
returns-in-Some g c = λ pid.
    let there = meta-there c.args.state.now.tree c.args.ino c.in-Some.meta c.in-Some.ensures in
    c.is_other_owner.ensures
    ∙ ap (λ (m : Meta). if c.args.uid == unchanged && c.args.gid == unchanged then false else nat_lt 0 m.names && not ((m.uid == or_old c.args.uid m.uid) && (m.gid == or_old c.args.gid m.gid))) there.2
    ∙ owner-there pid (meaning c.args.state.now) c.args.ino c.args.uid c.args.gid there.0 there.1

pub returns-in-None : goal.returns-in-None
returns-in-None g c = λ pid. owner-gone pid (meaning c.args.state.now) c.args.ino c.args.uid c.args.gid (meta-gone c.args.state.now.tree c.args.ino c.in-None.ensures)
