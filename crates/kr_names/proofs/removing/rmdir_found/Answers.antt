use Rattle.std.proofs.Common.{refl, sym, ◌∙◌, [], ◌∷◌, lit<}
use Rattle.kr_seen.specs.pr_base.declared.errno.Errno.TheVariants.{EBUSY, ENOTDIR, ENOTEMPTY}
use Rattle.kr_seen.specs.kr_tree.Tree.{is_directory, is_filled}
use Rattle.kr_seen.specs.kr_model.Change.{RemoveName}
use Rattle.kr_seen.specs.kr_model.Known.{known}
use Rattle.kr_seen.specs.kr_model.Reply.{answers}
use Rattle.kr_seen.specs.kr_model.State.{image_layout}
use Rattle.kr_seen.specs.kr_ops.Meaning.{meaning}
use Rattle.kr_seen.specs.Told.{entered_told}
use Rattle.kr_seen.proofs.CarryLemmas.{by-refusal, by-reply}
use Rattle.kr_names.proofs.NodeLemmas.{known-tested}
use Rattle.kr_names.proofs.TakeLemmas.{directory-goes, entry-empty, filled-kept, other-kept, rmdir-goes, rmdir-processes}
use Rattle.kr_names.proofs.removing.rmdir_found.Goals as goal

pub returns-then-is_processes_host-clause-performs : goal.returns-then-is_processes_host-clause-performs
returns-then-is_processes_host-clause-performs g c = λ mounts some.
    let k = known image_layout c.args.pid (meaning c.args.state.now) in
    let e = entered_told c.args.entered in
    by-refusal mounts c.args.pid _ c.args.state.now _ c.refused.result c.requires.sound.pids EBUSY
    (rmdir-processes k e c.args.found (sym (c.is_processes_host.ensures c.args.pid) ∙ c.if-is_processes_host.true)) c.refused.ensures refl

pub returns-then-not-is_directory-clause-performs : goal.returns-then-not-is_directory-clause-performs
returns-then-not-is_directory-clause-performs g c = λ mounts some.
    let k = known image_layout c.args.pid (meaning c.args.state.now) in
    let e = entered_told c.args.entered in
    let entry = c.in-Ok.ensures.row c.args.pid in
    by-refusal mounts c.args.pid _ c.args.state.now _ c.refused-then-not-is_directory.result c.requires.sound.pids ENOTDIR
    (rmdir-goes k e c.args.found (sym (c.is_processes_host.ensures c.args.pid) ∙ c.if-is_processes_host.false) ∙ entry.goes_on _ ∙ other-kept k e.name c.in-Ok.entry.dir entry.node (sym (known-tested c.args.pid (meaning c.args.state.now) c.in-Ok.entry.ino is_directory entry.node entry.there) ∙ sym c.is_directory.ensures ∙ c.if-not-is_directory.true)) c.refused-then-not-is_directory.ensures refl

pub returns-then-is_filled-clause-performs : goal.returns-then-is_filled-clause-performs
returns-then-is_filled-clause-performs g c = λ mounts some.
    let k = known image_layout c.args.pid (meaning c.args.state.now) in
    let e = entered_told c.args.entered in
    let entry = c.in-Ok.ensures.row c.args.pid in
    by-refusal mounts c.args.pid _ c.args.state.now _ c.refused-then-is_filled.result c.requires.sound.pids ENOTEMPTY
    (rmdir-goes k e c.args.found (sym (c.is_processes_host.ensures c.args.pid) ∙ c.if-is_processes_host.false) ∙ entry.goes_on _ ∙ filled-kept k e.name c.in-Ok.entry.dir entry.node (sym (known-tested c.args.pid (meaning c.args.state.now) c.in-Ok.entry.ino is_directory entry.node entry.there) ∙ sym c.is_directory.ensures ∙ c.if-not-is_directory.false) (sym (known-tested c.args.pid (meaning c.args.state.now) c.in-Ok.entry.ino is_filled entry.node entry.there) ∙ sym c.is_filled.ensures ∙ c.if-is_filled.true)) c.refused-then-is_filled.ensures refl

pub remove_name-requires : goal.remove_name-requires
remove_name-requires g c =
    let entry = c.in-Ok.ensures.row c.args.pid in
    (lit< tt, entry-empty c.args.state.now.tree c.args.entered c.args.found c.in-Ok.entry.dir c.in-Ok.entry.ino c.requires.entry entry.directory c.in-Ok.ensures.takes entry.object (sym c.is_filled.ensures ∙ c.if-is_filled.false))

pub returns-else-is_filled-clause-performs : goal.returns-else-is_filled-clause-performs
returns-else-is_filled-clause-performs g c = λ mounts some.
    let k = known image_layout c.args.pid (meaning c.args.state.now) in
    let e = entered_told c.args.entered in
    let entry = c.in-Ok.ensures.row c.args.pid in
    by-reply mounts c.args.pid _ c.args.state.now c.remove_name.new.self c.number.result c.requires.sound.pids (answers 0 (RemoveName c.in-Ok.entry.dir c.args.entered.name.now ∷ []))
    (rmdir-goes k e c.args.found (sym (c.is_processes_host.ensures c.args.pid) ∙ c.if-is_processes_host.false) ∙ entry.goes_on _ ∙ directory-goes k e.name c.in-Ok.entry.dir entry.node (sym (known-tested c.args.pid (meaning c.args.state.now) c.in-Ok.entry.ino is_directory entry.node entry.there) ∙ sym c.is_directory.ensures ∙ c.if-not-is_directory.false) (sym (known-tested c.args.pid (meaning c.args.state.now) c.in-Ok.entry.ino is_filled entry.node entry.there) ∙ sym c.is_filled.ensures ∙ c.if-is_filled.false))
    c.number.ensures (c.remove_name.ensures.makes c.args.pid mounts)

pub returns-in-Err-clause-performs : goal.returns-in-Err-clause-performs
returns-in-Err-clause-performs g c = λ mounts some.
    let k = known image_layout c.args.pid (meaning c.args.state.now) in
    let e = entered_told c.args.entered in
    by-refusal mounts c.args.pid _ c.args.state.now _ c.refused-in-Err.result c.requires.sound.pids c.in-Err.errno
    (rmdir-goes k e c.args.found (sym (c.is_processes_host.ensures c.args.pid) ∙ c.if-is_processes_host.false) ∙ c.in-Err.ensures.row c.args.pid _) c.refused-in-Err.ensures refl
