use Rattle.std.proofs.Common.{sym, ap, subst, ◌∙◌}
use Rattle.std.specs.Bool.{if◌then◌else◌}
use Rattle.kr_ops.specs.pr_base.declared.errno.Errno.TheVariants.{ENOENT, EACCES}
use Rattle.kr_ops.specs.kr_tree.declared.place.Host.{Host}
use Rattle.kr_ops.specs.kr_model.Asking.{writable}
use Rattle.kr_ops.specs.kr_model.Known.{known}
use Rattle.kr_ops.specs.kr_model.Reply.{refuse}
use Rattle.kr_ops.specs.kr_model.State.{image_layout}
use Rattle.kr_ops.specs.Meaning.{meaning}
use Rattle.kr_seen.specs.Asked.{IsWritable}
use Rattle.kr_seen.proofs.asking.writable.Goals as goal

pub returns-in-Node-clause-row : goal.returns-in-Node-clause-row
returns-in-Node-clause-row g c = λ pid.
    let P : Host → Type 0 = λ h. IsWritable (known image_layout pid (meaning c.args.state.now)) h c.writable_node.result in
    subst P (sym c.in-Node.is) (c.writable_node.ensures.row pid)

pub returns-then-is_over-clause-row : goal.returns-then-is_over-clause-row
returns-then-is_over-clause-row g c = λ pid next.
    ap (λ h. writable (known image_layout pid (meaning c.args.state.now)) h next) c.in-Proc.is
    ∙ ap (λ b. if b then refuse ENOENT else refuse EACCES) (sym (c.is_over.ensures pid) ∙ c.if-is_over.true)

pub returns-else-is_over-clause-row : goal.returns-else-is_over-clause-row
returns-else-is_over-clause-row g c = λ pid next.
    ap (λ h. writable (known image_layout pid (meaning c.args.state.now)) h next) c.in-Proc.is
    ∙ ap (λ b. if b then refuse ENOENT else refuse EACCES) (sym (c.is_over.ensures pid) ∙ c.if-is_over.false)
