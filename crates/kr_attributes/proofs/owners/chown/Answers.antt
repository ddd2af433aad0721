use Rattle.std.proofs.Common.{ap, []}
use Rattle.kr_seen.specs.kr_tree.declared.place.Host.TheVariants.{Node}
use Rattle.kr_seen.specs.kr_model.AttributeRows.{chown_by, chown_host}
use Rattle.kr_seen.specs.kr_model.Known.{known}
use Rattle.kr_seen.specs.kr_model.State.{image_layout}
use Rattle.kr_seen.specs.kr_ops.Meaning.{meaning}
use Rattle.kr_seen.proofs.PerformLemmas.{by-row}
use Rattle.kr_attributes.proofs.owners.chown.Goals as goal

pub returns-in-Node-clause-performs : goal.returns-in-Node-clause-performs
returns-in-Node-clause-performs g c = λ pid some.
    let k = known image_layout pid (meaning c.args.state.now) in
    by-row pid _ c.args.state.now c.chown_node.new.state c.chown_node.result c.requires.pids (λ k. chown_host k c.args.uid c.args.gid (Node c.in-Node.ino))
    (ap (chown_host k c.args.uid c.args.gid) c.in-Node.is) (c.chown_node.ensures.performs pid some)

pub returns-in-Proc-clause-performs : goal.returns-in-Proc-clause-performs
returns-in-Proc-clause-performs g c = λ pid some.
    let k = known image_layout pid (meaning c.args.state.now) in
    by-row pid _ c.args.state.now c.args.state.now c.chown_own.result c.requires.pids (λ k. chown_by k.user k.user c.args.uid c.args.gid [])
    (ap (chown_host k c.args.uid c.args.gid) c.in-Proc.is) (c.chown_own.ensures pid some)
