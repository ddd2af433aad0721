use Rattle.std.proofs.Common.{ap, ◌∙◌, if◌then◌else◌, w32}
use Rattle.std.proofs.Math.Facts.{to_z-of_z}
use Rattle.kr_steps.specs.kr_model.Asking.{is_working_directory}
use Rattle.kr_steps.specs.kr_model.Known.{known}
use Rattle.kr_steps.specs.kr_model.State.{image_layout}
use Rattle.kr_hostview.specs.kr_ops.Meaning.{meaning}
use Rattle.kr_turns.specs.Target.{inode_at, inode_under}
use Rattle.kr_turns.proofs.target.inode_here.Goals as goal

pub returns-then-is_working_directory : goal.returns-then-is_working_directory
returns-then-is_working_directory g c =
    let k = known image_layout c.args.pid (meaning c.args.state.now) in
    c.inode_at.ensures c.args.pid
    ∙ ap (inode_at k) c.working_directory.ensures
    ∙ ap (λ test. if test then inode_at k k.caller.cwd else inode_under k c.args.dirfd) (c.if-is_working_directory.ensures ∙ ap is_working_directory (to_z-of_z {w = w32} {z = c.args.dirfd} c.ranges.dirfd))
