use Rattle.std.proofs.Common.{refl, sym, ap, subst, ◌∙◌, [], ◌∷◌, ◌≡◌, ℕ, ◌≤◌, Err, lit<}
use Rattle.kr_seen.specs.kr_tree.Changes.{byte_limit}
use Rattle.std.specs.Bool.{if◌then◌else◌}
use Rattle.std.specs.Option.{option_map}
use Rattle.kr_seen.specs.pr_base.declared.errno.Errno.TheVariants.{EACCES, EMFILE, ENOTDIR}
use Rattle.kr_seen.specs.kr_calls.Arguments.{has}
use Rattle.kr_seen.specs.kr_tree.Tree.{is_file}
use Rattle.kr_seen.specs.kr_tree.declared.place.Host.TheVariants as host
use Rattle.kr_seen.specs.kr_files.declared.opened.What.TheVariants.{File}
use Rattle.kr_seen.specs.kr_model.Applied.{applied, images, in_mount}
use Rattle.kr_seen.specs.kr_model.Change.{OfFound, OpenFile, SetSize}
use Rattle.kr_seen.specs.kr_model.DescriptorRows.{o_cloexec}
use Rattle.kr_seen.specs.kr_model.FileRows.{cut_after, opens_as}
use Rattle.kr_seen.specs.kr_model.Known.{known}
use Rattle.kr_seen.specs.kr_model.Reply.{answers, done}
use Rattle.kr_seen.specs.kr_model.State.{image_layout}
use Rattle.kr_seen.specs.kr_ops.Meaning.{meaning}
use Rattle.kr_seen.proofs.CarryLemmas.{by-refusal, by-reply}
use Rattle.kr_seen.specs.Told.{entry_told}
use Rattle.kr_names.specs.Opening.{entry_dir, entry_name}
use Rattle.kr_names.proofs.OpenLemmas.{cut-fits, file-opens, file-refused, file-wanted, opened-body, opened-bytes, opened-makes, under-full, under-goes}
use Rattle.kr_names.proofs.RoomLemmas.{is-full}
use Rattle.kr_names.proofs.found.open_file.Goals as goal

pub returns-then-wants_directory-clause-performs : goal.returns-then-wants_directory-clause-performs
returns-then-wants_directory-clause-performs g c = λ mounts n found known_ some.
    let s = meaning c.args.state.now in
    let k = known image_layout c.args.pid s in
    let dir = entry_dir (option_map entry_told c.args.entry) in
    let name = entry_name (option_map entry_told c.args.entry) in
    let o = opens_as File (host.Node c.args.ino) dir name c.args.flags in
    by-refusal mounts c.args.pid _ c.args.state.now _ c.refused.result c.requires.caller.sound.pids ENOTDIR
    (file-wanted k c.args.flags c.args.ino n dir name (sym c.wants_directory.ensures ∙ c.if-wants_directory.true)) c.refused.ensures refl

pub returns-then-not-has_rights-clause-performs : goal.returns-then-not-has_rights-clause-performs
returns-then-not-has_rights-clause-performs g c = λ mounts n found known_ some.
    let s = meaning c.args.state.now in
    let k = known image_layout c.args.pid s in
    let dir = entry_dir (option_map entry_told c.args.entry) in
    let name = entry_name (option_map entry_told c.args.entry) in
    let o = opens_as File (host.Node c.args.ino) dir name c.args.flags in
    by-refusal mounts c.args.pid _ c.args.state.now _ c.refused-then-not-has_rights.result c.requires.caller.sound.pids EACCES
    (file-refused k c.args.flags c.args.ino n dir name (sym c.wants_directory.ensures ∙ c.if-wants_directory.false) (sym (c.has_rights.ensures c.args.pid n known_) ∙ c.if-not-has_rights.true)) c.refused-then-not-has_rights.ensures refl

pub returns-in-Err-Full-clause-performs : goal.returns-in-Err-Full-clause-performs
returns-in-Err-Full-clause-performs g c = λ mounts n found known_ some.
    let s = meaning c.args.state.now in
    let k = known image_layout c.args.pid s in
    let dir = entry_dir (option_map entry_told c.args.entry) in
    let name = entry_name (option_map entry_told c.args.entry) in
    let o = opens_as File (host.Node c.args.ino) dir name c.args.flags in
    by-refusal mounts c.args.pid _ c.args.state.now c.open.new.self c.refused-in-Err-Full.result c.requires.caller.sound.pids EMFILE
    (file-opens k c.args.flags c.args.ino n dir name (sym c.wants_directory.ensures ∙ c.if-wants_directory.false) (sym (c.has_rights.ensures c.args.pid n known_) ∙ c.if-not-has_rights.false)
    ∙ under-full s c.args.pid c.args.flags c.requires.caller.lives OfFound o (cut_after c.args.flags c.args.ino) (c.open.ensures.full.0 (c.in-Err-Full.is ∙ ap (λ e. Err e) c.in-Err-Full.field-0-is)))
    c.refused-in-Err-Full.ensures c.in-Err-Full.ensures.err.same

pub set_size-requires : goal.set_size-requires
set_size-requires g c =
    let o = opens_as File (host.Node c.args.ino) (entry_dir (option_map entry_told c.args.entry)) (entry_name (option_map entry_told c.args.entry)) c.args.flags in
    let at : in_mount c.args.place.mount (opens_as File (host.Node c.args.ino) (entry_dir (option_map entry_told c.args.entry)) (entry_name (option_map entry_told c.args.entry)) c.args.flags) ≡ c.opened_as-opened.result =
    sym (c.opened_as-opened.ensures ∙ ap (λ h. in_mount c.args.place.mount (opens_as File h c.entry_dir-dir.result c.in-Ok.name c.args.flags)) c.requires.host
    ∙ ap (λ d. in_mount c.args.place.mount (opens_as File (host.Node c.args.ino) d c.in-Ok.name c.args.flags)) c.entry_dir-dir.ensures
    ∙ ap (λ n. in_mount c.args.place.mount (opens_as File (host.Node c.args.ino) (entry_dir (option_map entry_told c.args.entry)) n c.args.flags)) c.in-Ok.ensures) in
    (lit< tt, opened-body c.args.pid c.in-Ok-open.fd c.args.ino _ c.args.place.mount o _ c.args.state.now c.open.new.self refl at c.in-Ok-open.ensures.makes is_file ∙ c.requires.file)

pub unreachable-requires : goal.unreachable-requires
unreachable-requires g c =
    let o = opens_as File (host.Node c.args.ino) (entry_dir (option_map entry_told c.args.entry)) (entry_name (option_map entry_told c.args.entry)) c.args.flags in
    let at : in_mount c.args.place.mount (opens_as File (host.Node c.args.ino) (entry_dir (option_map entry_told c.args.entry)) (entry_name (option_map entry_told c.args.entry)) c.args.flags) ≡ c.opened_as-opened.result =
    sym (c.opened_as-opened.ensures ∙ ap (λ h. in_mount c.args.place.mount (opens_as File h c.entry_dir-dir.result c.in-Ok.name c.args.flags)) c.requires.host
    ∙ ap (λ d. in_mount c.args.place.mount (opens_as File (host.Node c.args.ino) d c.in-Ok.name c.args.flags)) c.entry_dir-dir.ensures
    ∙ ap (λ n. in_mount c.args.place.mount (opens_as File (host.Node c.args.ino) (entry_dir (option_map entry_told c.args.entry)) n c.args.flags)) c.in-Ok.ensures) in
    let bytes = opened-bytes c.args.pid c.in-Ok-open.fd c.args.ino _ c.args.place.mount o _ c.args.state.now c.open.new.self refl at c.in-Ok-open.ensures.makes in
    let P : ℕ → Type 0 = λ n. n ≤ byte_limit in
    let fits = cut-fits c.open.new.self.tree c.args.ino (subst P (sym bytes) c.requires.room) in
    let full = is-full _ _ _ refl c.set_size.ensures.full (c.in-Err-Full-set_size.is ∙ ap (λ e. Err e) c.in-Err-Full-set_size.field-0-is) in
    cc

pub returns-in-Ok-set_size-clause-performs : goal.returns-in-Ok-set_size-clause-performs
returns-in-Ok-set_size-clause-performs g c = λ mounts n found known_ some.
    let s = meaning c.args.state.now in
    let k = known image_layout c.args.pid s in
    let dir = entry_dir (option_map entry_told c.args.entry) in
    let name = entry_name (option_map entry_told c.args.entry) in
    let o = opens_as File (host.Node c.args.ino) dir name c.args.flags in
    let at : in_mount c.args.place.mount (opens_as File (host.Node c.args.ino) (entry_dir (option_map entry_told c.args.entry)) (entry_name (option_map entry_told c.args.entry)) c.args.flags) ≡ c.opened_as-opened.result =
    sym (c.opened_as-opened.ensures ∙ ap (λ h. in_mount c.args.place.mount (opens_as File h c.entry_dir-dir.result c.in-Ok.name c.args.flags)) c.requires.host
    ∙ ap (λ d. in_mount c.args.place.mount (opens_as File (host.Node c.args.ino) d c.in-Ok.name c.args.flags)) c.entry_dir-dir.ensures
    ∙ ap (λ n. in_mount c.args.place.mount (opens_as File (host.Node c.args.ino) (entry_dir (option_map entry_told c.args.entry)) n c.args.flags)) c.in-Ok.ensures) in
    by-reply mounts c.args.pid _ c.args.state.now c.set_size.new.self c.number.result c.requires.caller.sound.pids (answers c.in-Ok-open.fd (OpenFile c.in-Ok-open.fd (has c.args.flags o_cloexec) OfFound o ∷ SetSize c.args.ino 0 ∷ []))
    (file-opens k c.args.flags c.args.ino n dir name (sym c.wants_directory.ensures ∙ c.if-wants_directory.false) (sym (c.has_rights.ensures c.args.pid n known_) ∙ c.if-not-has_rights.false)
    ∙ under-goes s c.args.pid c.args.flags c.requires.caller.lives OfFound o (cut_after c.args.flags c.args.ino) c.in-Ok-open.fd c.in-Ok-open.ensures.lowest
    ∙ ap (λ b. done c.in-Ok-open.fd (OpenFile c.in-Ok-open.fd (has c.args.flags o_cloexec) OfFound o ∷ (if b then SetSize c.args.ino 0 ∷ [] else []))) (sym c.truncates.ensures ∙ c.if-truncates.true))
    c.number.ensures (c.in-Ok-set_size.ensures.ok c.args.pid mounts ∙ ap (applied images mounts c.args.pid (SetSize c.args.ino 0)) (opened-makes mounts c.args.pid c.args.flags c.in-Ok-open.fd OfFound c.args.place.mount o _ _ c.args.state.now c.open.new.self c.closes_on_exec.ensures found at c.in-Ok-open.ensures.makes))

pub returns-else-truncates-clause-performs : goal.returns-else-truncates-clause-performs
returns-else-truncates-clause-performs g c = λ mounts n found known_ some.
    let s = meaning c.args.state.now in
    let k = known image_layout c.args.pid s in
    let dir = entry_dir (option_map entry_told c.args.entry) in
    let name = entry_name (option_map entry_told c.args.entry) in
    let o = opens_as File (host.Node c.args.ino) dir name c.args.flags in
    let at : in_mount c.args.place.mount (opens_as File (host.Node c.args.ino) (entry_dir (option_map entry_told c.args.entry)) (entry_name (option_map entry_told c.args.entry)) c.args.flags) ≡ c.opened_as-opened.result =
    sym (c.opened_as-opened.ensures ∙ ap (λ h. in_mount c.args.place.mount (opens_as File h c.entry_dir-dir.result c.in-Ok.name c.args.flags)) c.requires.host
    ∙ ap (λ d. in_mount c.args.place.mount (opens_as File (host.Node c.args.ino) d c.in-Ok.name c.args.flags)) c.entry_dir-dir.ensures
    ∙ ap (λ n. in_mount c.args.place.mount (opens_as File (host.Node c.args.ino) (entry_dir (option_map entry_told c.args.entry)) n c.args.flags)) c.in-Ok.ensures) in
    by-reply mounts c.args.pid _ c.args.state.now c.open.new.self c.number-else-truncates.result c.requires.caller.sound.pids (answers c.in-Ok-open.fd (OpenFile c.in-Ok-open.fd (has c.args.flags o_cloexec) OfFound o ∷ []))
    (file-opens k c.args.flags c.args.ino n dir name (sym c.wants_directory.ensures ∙ c.if-wants_directory.false) (sym (c.has_rights.ensures c.args.pid n known_) ∙ c.if-not-has_rights.false)
    ∙ under-goes s c.args.pid c.args.flags c.requires.caller.lives OfFound o (cut_after c.args.flags c.args.ino) c.in-Ok-open.fd c.in-Ok-open.ensures.lowest
    ∙ ap (λ b. done c.in-Ok-open.fd (OpenFile c.in-Ok-open.fd (has c.args.flags o_cloexec) OfFound o ∷ (if b then SetSize c.args.ino 0 ∷ [] else []))) (sym c.truncates.ensures ∙ c.if-truncates.false))
    c.number-else-truncates.ensures (opened-makes mounts c.args.pid c.args.flags c.in-Ok-open.fd OfFound c.args.place.mount o _ _ c.args.state.now c.open.new.self c.closes_on_exec.ensures found at c.in-Ok-open.ensures.makes)
