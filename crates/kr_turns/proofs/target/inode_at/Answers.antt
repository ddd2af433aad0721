use Rattle.std.proofs.Common.{◌≡◌, true, false, Some, None, if◌then◌else◌, sym, ap, ◌∙◌}
use Rattle.kr_execve.specs.kr_tree.declared.place.Host.TheVariants.{Node}
use Rattle.kr_steps.specs.kr_model.Asking.{is_processes_host}
use Rattle.kr_steps.specs.kr_model.Known.{known}
use Rattle.kr_steps.specs.kr_model.State.{image_layout}
use Rattle.kr_hostview.specs.kr_ops.Meaning.{meaning}
use Rattle.kr_turns.specs.Target.{inode_at}
use Rattle.kr_turns.proofs.target.inode_at.Goals as goal

pub returns-then-is_processes_host : goal.returns-then-is_processes_host
returns-then-is_processes_host g c = λ pid.
    let k = known image_layout pid (meaning c.args.state.now) in
    let test : is_processes_host k (Node c.in-Node.ino) ≡ true = sym (c.if-is_processes_host.ensures pid) in
    sym (ap (inode_at k) c.in-Node.is ∙ ap (λ b. if b then None else Some c.in-Node.ino) test)

pub returns-else-is_processes_host : goal.returns-else-is_processes_host
returns-else-is_processes_host g c = λ pid.
    let k = known image_layout pid (meaning c.args.state.now) in
    let test : is_processes_host k (Node c.in-Node.ino) ≡ false = sym (c.if-is_processes_host.ensures pid) in
    ap Some c.from.ensures ∙ sym (ap (inode_at k) c.in-Node.is ∙ ap (λ b. if b then None else Some c.in-Node.ino) test)
