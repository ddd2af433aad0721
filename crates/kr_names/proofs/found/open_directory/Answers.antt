use Rattle.std.proofs.Common.{refl, sym, ap, ◌∙◌, [], ◌∷◌, Err}
use Rattle.kr_seen.specs.pr_base.declared.errno.Errno.TheVariants.{EACCES, EISDIR, EMFILE}
use Rattle.kr_seen.specs.kr_calls.Arguments.{has}
use Rattle.kr_seen.specs.kr_files.declared.opened.What.TheVariants.{Dir}
use Rattle.kr_seen.specs.kr_model.Applied.{in_mount}
use Rattle.kr_seen.specs.kr_model.Change.{OfFound, OpenFile}
use Rattle.kr_seen.specs.kr_model.DescriptorRows.{o_cloexec}
use Rattle.kr_seen.specs.kr_model.FileRows.{opens_as}
use Rattle.kr_seen.specs.kr_model.Known.{known}
use Rattle.kr_seen.specs.kr_model.Reply.{answers}
use Rattle.kr_seen.specs.kr_model.State.{image_layout}
use Rattle.kr_seen.specs.kr_ops.Meaning.{meaning}
use Rattle.kr_seen.proofs.CarryLemmas.{by-refusal, by-reply}
use Rattle.kr_names.proofs.OpenLemmas.{directory-changed, directory-kept, directory-opens, opened-makes, under-full, under-goes}
use Rattle.kr_names.proofs.found.open_directory.Goals as goal

pub returns-then-changes-clause-performs : goal.returns-then-changes-clause-performs
returns-then-changes-clause-performs g c = λ mounts found some.
    let s = meaning c.args.state.now in
    let k = known image_layout c.args.pid s in
    by-refusal mounts c.args.pid _ c.args.state.now _ c.refused.result c.requires.caller.sound.pids EISDIR
    (directory-changed k c.args.flags c.args.place.host c.args.readable (sym c.changes.ensures ∙ c.if-changes.true)) c.refused.ensures refl

pub returns-then-not-readable-clause-performs : goal.returns-then-not-readable-clause-performs
returns-then-not-readable-clause-performs g c = λ mounts found some.
    let s = meaning c.args.state.now in
    let k = known image_layout c.args.pid s in
    by-refusal mounts c.args.pid _ c.args.state.now _ c.refused-then-not-readable.result c.requires.caller.sound.pids EACCES
    (directory-kept k c.args.flags c.args.place.host c.args.readable (sym c.changes.ensures ∙ c.if-changes.false) c.if-not-readable.true) c.refused-then-not-readable.ensures refl

pub returns-in-Ok-clause-performs : goal.returns-in-Ok-clause-performs
returns-in-Ok-clause-performs g c = λ mounts found some.
    let s = meaning c.args.state.now in
    let k = known image_layout c.args.pid s in
    let o = opens_as Dir c.args.place.host 0 [] c.args.flags in
    by-reply mounts c.args.pid _ c.args.state.now c.open.new.self c.number.result c.requires.caller.sound.pids (answers c.in-Ok.fd (OpenFile c.in-Ok.fd (has c.args.flags o_cloexec) OfFound o ∷ []))
    (directory-opens k c.args.flags c.args.place.host c.args.readable (sym c.changes.ensures ∙ c.if-changes.false) c.if-not-readable.false
    ∙ under-goes s c.args.pid c.args.flags c.requires.caller.lives OfFound o [] c.in-Ok.fd c.in-Ok.ensures.lowest)
    c.number.ensures
    (opened-makes mounts c.args.pid c.args.flags c.in-Ok.fd OfFound c.args.place.mount o _ _ c.args.state.now c.open.new.self c.closes_on_exec.ensures found
    (sym (c.opened_as-opened.ensures ∙ ap (λ n. in_mount c.args.place.mount (opens_as Dir c.args.place.host 0 n c.args.flags)) c.new.ensures)) c.in-Ok.ensures.makes)

pub returns-in-Err-Full-clause-performs : goal.returns-in-Err-Full-clause-performs
returns-in-Err-Full-clause-performs g c = λ mounts found some.
    let s = meaning c.args.state.now in
    let k = known image_layout c.args.pid s in
    let o = opens_as Dir c.args.place.host 0 [] c.args.flags in
    by-refusal mounts c.args.pid _ c.args.state.now c.open.new.self c.refused-in-Err-Full.result c.requires.caller.sound.pids EMFILE
    (directory-opens k c.args.flags c.args.place.host c.args.readable (sym c.changes.ensures ∙ c.if-changes.false) c.if-not-readable.false
    ∙ under-full s c.args.pid c.args.flags c.requires.caller.lives OfFound o [] (c.open.ensures.full.0 (c.in-Err-Full.is ∙ ap (λ e. Err e) c.in-Err-Full.field-0-is)))
    c.refused-in-Err-Full.ensures c.in-Err-Full.ensures.err.same
