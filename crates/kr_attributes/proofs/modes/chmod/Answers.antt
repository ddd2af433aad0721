use Rattle.std.proofs.Common.{refl, ap}
use Rattle.kr_seen.specs.pr_base.declared.errno.Errno.TheVariants.{EPERM}
use Rattle.kr_seen.specs.kr_tree.declared.place.Host.TheVariants.{Node}
use Rattle.kr_seen.specs.kr_model.AttributeRows.{chmod_host}
use Rattle.kr_seen.specs.kr_model.Known.{known}
use Rattle.kr_seen.specs.kr_model.State.{image_layout}
use Rattle.kr_seen.specs.kr_ops.Meaning.{meaning}
use Rattle.kr_seen.proofs.PerformLemmas.{by-refusal, by-row}
use Rattle.kr_attributes.proofs.modes.chmod.Goals as goal

pub returns-in-Node-clause-performs : goal.returns-in-Node-clause-performs
returns-in-Node-clause-performs g c = λ pid some.
    let k = known image_layout pid (meaning c.args.state.now) in
    by-row pid _ c.args.state.now c.chmod_node.new.state c.chmod_node.result c.requires.pids (λ k. chmod_host k c.args.mode (Node c.in-Node.ino))
    (ap (chmod_host k c.args.mode) c.in-Node.is) (c.chmod_node.ensures.performs pid some)

pub returns-in-Proc-clause-performs : goal.returns-in-Proc-clause-performs
returns-in-Proc-clause-performs g c = λ pid some.
    let k = known image_layout pid (meaning c.args.state.now) in
    by-refusal pid _ c.args.state.now c.args.state.now c.refused.result c.requires.pids EPERM (ap (chmod_host k c.args.mode) c.in-Proc.is) c.refused.ensures refl
