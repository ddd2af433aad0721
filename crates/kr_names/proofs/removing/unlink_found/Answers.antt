use Rattle.std.proofs.Common.{refl, sym, ◌∙◌, true, false, [], ◌∷◌, lit<}
use Rattle.kr_seen.specs.pr_base.declared.errno.Errno.TheVariants.{EBUSY, ENOTDIR, EISDIR}
use Rattle.kr_seen.specs.kr_tree.Tree.{is_directory}
use Rattle.kr_seen.specs.kr_model.Change.{RemoveName}
use Rattle.kr_seen.specs.kr_model.Known.{known}
use Rattle.kr_seen.specs.kr_model.Reply.{answers}
use Rattle.kr_seen.specs.kr_model.State.{image_layout}
use Rattle.kr_seen.specs.kr_ops.Meaning.{meaning}
use Rattle.kr_seen.specs.Told.{entered_told}
use Rattle.kr_seen.proofs.CarryLemmas.{by-refusal, by-reply}
use Rattle.kr_names.proofs.NodeLemmas.{known-tested}
use Rattle.kr_names.proofs.TakeLemmas.{entry-empty, file-empty, file-goes, file-kept, unlink-goes, unlink-processes, unlink-slash}
use Rattle.kr_names.proofs.removing.unlink_found.Goals as goal

pub returns-then-is_processes_host-clause-performs : goal.returns-then-is_processes_host-clause-performs
returns-then-is_processes_host-clause-performs g c = λ mounts some.
    let k = known image_layout c.args.pid (meaning c.args.state.now) in
    let e = entered_told c.args.entered in
    by-refusal mounts c.args.pid _ c.args.state.now _ c.refused.result c.requires.sound.pids EBUSY
    (unlink-processes k e c.args.found (sym (c.is_processes_host.ensures c.args.pid) ∙ c.if-is_processes_host.true)) c.refused.ensures refl

pub returns-then-is_directory_host-clause-performs : goal.returns-then-is_directory_host-clause-performs
returns-then-is_directory_host-clause-performs g c = λ mounts some.
    let k = known image_layout c.args.pid (meaning c.args.state.now) in
    let e = entered_told c.args.entered in
    by-refusal mounts c.args.pid _ c.args.state.now _ c.refused-then-is_directory_host.result c.requires.sound.pids EISDIR
    (unlink-slash k e c.args.found true (sym (c.is_processes_host.ensures c.args.pid) ∙ c.if-is_processes_host.false) c.if-entered.true (sym (c.is_directory_host.ensures.known c.args.pid) ∙ c.if-is_directory_host.true)) c.refused-then-is_directory_host.ensures refl

pub returns-then-entered-clause-performs : goal.returns-then-entered-clause-performs
returns-then-entered-clause-performs g c = λ mounts some.
    let k = known image_layout c.args.pid (meaning c.args.state.now) in
    let e = entered_told c.args.entered in
    by-refusal mounts c.args.pid _ c.args.state.now _ c.refused-then-entered.result c.requires.sound.pids ENOTDIR
    (unlink-slash k e c.args.found false (sym (c.is_processes_host.ensures c.args.pid) ∙ c.if-is_processes_host.false) c.if-entered.true (sym (c.is_directory_host.ensures.known c.args.pid) ∙ c.if-is_directory_host.false)) c.refused-then-entered.ensures refl

pub returns-then-is_directory-clause-performs : goal.returns-then-is_directory-clause-performs
returns-then-is_directory-clause-performs g c = λ mounts some.
    let k = known image_layout c.args.pid (meaning c.args.state.now) in
    let e = entered_told c.args.entered in
    let entry = c.in-Ok.ensures.row c.args.pid in
    by-refusal mounts c.args.pid _ c.args.state.now _ c.refused-then-is_directory.result c.requires.sound.pids EISDIR
    (unlink-goes k e c.args.found (sym (c.is_processes_host.ensures c.args.pid) ∙ c.if-is_processes_host.false) c.if-entered.false ∙ entry.goes_on _ ∙ file-kept k e.name c.in-Ok.entry.dir entry.node (sym (known-tested c.args.pid (meaning c.args.state.now) c.in-Ok.entry.ino is_directory entry.node entry.there) ∙ sym c.is_directory.ensures ∙ c.if-is_directory.true)) c.refused-then-is_directory.ensures refl

pub remove_name-requires : goal.remove_name-requires
remove_name-requires g c =
    let entry = c.in-Ok.ensures.row c.args.pid in
    (lit< tt, entry-empty c.args.state.now.tree c.args.entered c.args.found c.in-Ok.entry.dir c.in-Ok.entry.ino c.requires.entry entry.directory c.in-Ok.ensures.takes entry.object (file-empty c.args.state.now.tree c.in-Ok.entry.ino (sym c.is_directory.ensures ∙ c.if-is_directory.false)))

pub returns-else-is_directory-clause-performs : goal.returns-else-is_directory-clause-performs
returns-else-is_directory-clause-performs g c = λ mounts some.
    let k = known image_layout c.args.pid (meaning c.args.state.now) in
    let e = entered_told c.args.entered in
    let entry = c.in-Ok.ensures.row c.args.pid in
    by-reply mounts c.args.pid _ c.args.state.now c.remove_name.new.self c.number.result c.requires.sound.pids (answers 0 (RemoveName c.in-Ok.entry.dir c.args.entered.name.now ∷ []))
    (unlink-goes k e c.args.found (sym (c.is_processes_host.ensures c.args.pid) ∙ c.if-is_processes_host.false) c.if-entered.false ∙ entry.goes_on _ ∙ file-goes k e.name c.in-Ok.entry.dir entry.node (sym (known-tested c.args.pid (meaning c.args.state.now) c.in-Ok.entry.ino is_directory entry.node entry.there) ∙ sym c.is_directory.ensures ∙ c.if-is_directory.false))
    c.number.ensures (c.remove_name.ensures.makes c.args.pid mounts)

pub returns-in-Err-clause-performs : goal.returns-in-Err-clause-performs
returns-in-Err-clause-performs g c = λ mounts some.
    let k = known image_layout c.args.pid (meaning c.args.state.now) in
    let e = entered_told c.args.entered in
    by-refusal mounts c.args.pid _ c.args.state.now _ c.refused-in-Err.result c.requires.sound.pids c.in-Err.errno
    (unlink-goes k e c.args.found (sym (c.is_processes_host.ensures c.args.pid) ∙ c.if-is_processes_host.false) c.if-entered.false ∙ c.in-Err.ensures.row c.args.pid _) c.refused-in-Err.ensures refl
