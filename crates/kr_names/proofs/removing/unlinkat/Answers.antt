use Rattle.std.proofs.Common.{sym, ap, ◌∙◌}
use Rattle.std.specs.Bool.{if◌then◌else◌}
use Rattle.kr_seen.specs.kr_model.Known.{known}
use Rattle.kr_seen.specs.kr_model.NameRows.{rmdir_row, unlink_row}
use Rattle.kr_seen.specs.kr_model.State.{image_layout}
use Rattle.kr_seen.specs.kr_ops.Meaning.{meaning}
use Rattle.kr_seen.specs.Placed.{target_mounts}
use Rattle.kr_seen.specs.Performing.{seen_taken}
use Rattle.kr_names.proofs.RowLemmas.{by-row}
use Rattle.kr_names.proofs.removing.unlinkat.Goals as goal

pub returns-then-removes_directory-clause-performs : goal.returns-then-removes_directory-clause-performs
returns-then-removes_directory-clause-performs g c = λ some.
    let k = known image_layout c.args.pid (meaning c.args.state.now) in
    let told = seen_taken g.P.Places.number (g.P.Places.mounts c.args.places.now) c.args.pid c.args.state.now c.args.target.now in
    let mounts = target_mounts c.args.target.now in
    by-row mounts c.args.pid _ (λ k. rmdir_row k told) c.args.state.now c.rmdir.new.state c.rmdir.result
    (ap (λ b. if b then rmdir_row k told else unlink_row k told) (sym c.removes_directory.ensures ∙ c.if-removes_directory.true)) (c.rmdir.ensures.performs some)

pub returns-else-removes_directory-clause-performs : goal.returns-else-removes_directory-clause-performs
returns-else-removes_directory-clause-performs g c = λ some.
    let k = known image_layout c.args.pid (meaning c.args.state.now) in
    let told = seen_taken g.P.Places.number (g.P.Places.mounts c.args.places.now) c.args.pid c.args.state.now c.args.target.now in
    let mounts = target_mounts c.args.target.now in
    by-row mounts c.args.pid _ (λ k. unlink_row k told) c.args.state.now c.unlink.new.state c.unlink.result
    (ap (λ b. if b then rmdir_row k told else unlink_row k told) (sym c.removes_directory.ensures ∙ c.if-removes_directory.false)) (c.unlink.ensures.performs some)
