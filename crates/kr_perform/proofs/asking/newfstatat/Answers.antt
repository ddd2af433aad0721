use Rattle.std.proofs.Common.{sym, subst, w32}
use Rattle.std.proofs.Math.Facts.{to_z-of_z}
use Rattle.law_allowed.specs.kr_calls.declared.request.Request.TheVariants as call
use Rattle.kr_transfer.specs.kr_seen.PerformedRows.{Performs}
use Rattle.law_allowed.specs.kr_model.AttributeRows.{newfstatat_here}
use Rattle.kr_perform.specs.Operating.{OperatesAt}
use Rattle.kr_perform.proofs.OperatingLemmas.{at-mounts, has-bytes, has-none}
use Rattle.kr_perform.proofs.asking.newfstatat.Goals as goal

pub returns-then-is_empty-clause-performs : goal.returns-then-is_empty-clause-performs
returns-then-is_empty-clause-performs g c = λ n table flags.
    let dirfd = to_z-of_z {w = w32} {z = c.args.dirfd} c.ranges.dirfd in
    let none = has-none c.args.path.now (sym c.if-is_empty.ensures) in
    subst (λ path. OperatesAt n table c.args.pid (call.Newfstatat c.args.dirfd path c.args.buf flags) c.args.targets.now.first c.args.targets.now.second c.args.state.now c.newfstatat_here.new.state c.newfstatat_here.result) (sym none)
    (at-mounts (subst (λ z. Performs c.args.pid (λ k. newfstatat_here k z c.args.buf) c.args.state.now c.newfstatat_here.new.state c.newfstatat_here.result) dirfd c.newfstatat_here.ensures.performs))

pub returns-else-is_empty-clause-performs : goal.returns-else-is_empty-clause-performs
returns-else-is_empty-clause-performs g c = λ n table flags.
    let some = has-bytes c.args.path.now (sym c.if-is_empty.ensures) in
    subst (λ path. OperatesAt n table c.args.pid (call.Newfstatat c.args.dirfd path c.args.buf flags) c.args.targets.now.first c.args.targets.now.second c.args.state.now c.newfstatat_of_path.new.state c.newfstatat_of_path.result) (sym some.2) (c.newfstatat_of_path.ensures.performs n table c.args.dirfd some.0 some.1 flags)
