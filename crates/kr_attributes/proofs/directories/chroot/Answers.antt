use Rattle.std.proofs.Common.{refl, ◌∙◌}
use Rattle.kr_seen.specs.pr_base.declared.errno.Errno.TheVariants.{EPERM, ENOENT}
use Rattle.kr_seen.specs.kr_model.DirectoryRows.{chroot_row}
use Rattle.kr_seen.specs.kr_model.Known.{known}
use Rattle.kr_seen.specs.kr_model.Reply.{refuse}
use Rattle.kr_seen.specs.kr_model.State.{image_layout}
use Rattle.kr_seen.specs.kr_ops.Meaning.{meaning}
use Rattle.kr_seen.specs.Placed.{target_mounts}
use Rattle.kr_seen.proofs.CarryLemmas.{by-refusal}
use Rattle.kr_attributes.proofs.FoundLemmas.{not-found, was-found}
use Rattle.kr_attributes.proofs.directories.chroot.Goals as goal

pub returns-in_default : goal.returns-in_default
returns-in_default g c = λ n table pid some.
    let k = known image_layout pid (meaning c.args.state.now) in
    by-refusal (target_mounts c.args.target.now) pid _ c.args.state.now c.args.state.now c.refused.result c.requires.pids ENOENT
    (not-found n table pid c.args.state.now c.args.target.now (chroot_row k) c.in_default.is) c.refused.ensures refl

pub returns-in-Ok : goal.returns-in-Ok
returns-in-Ok g c = λ n table pid some.
    let k = known image_layout pid (meaning c.args.state.now) in
    by-refusal (target_mounts c.args.target.now) pid _ c.args.state.now c.args.state.now c.refused-in-Ok.result c.requires.pids EPERM
    (was-found n table pid c.args.state.now c.args.target.now (chroot_row k) c.in-Some.place c.in-Some.is ∙ c.in-Ok.ensures.ok pid (refuse EPERM)) c.refused-in-Ok.ensures refl

pub returns-in-Err : goal.returns-in-Err
returns-in-Err g c = λ n table pid some.
    let k = known image_layout pid (meaning c.args.state.now) in
    by-refusal (target_mounts c.args.target.now) pid _ c.args.state.now c.args.state.now c.refused-in-Err.result c.requires.pids c.in-Err.errno
    (was-found n table pid c.args.state.now c.args.target.now (chroot_row k) c.in-Some.place c.in-Some.is ∙ c.in-Err.ensures.err pid (refuse EPERM)) c.refused-in-Err.ensures refl
