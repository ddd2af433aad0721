use Rattle.std.proofs.Common.{◌≡◌, true, false, refl, sym, ap, subst, ◌∙◌, [], ◌∷◌, Err, lit<}
use Rattle.std.specs.Prelude.{◌&&◌, not}
use Rattle.std.proofs.lemmas.Bool.{and_parts, cond-true, false_from_ne_true}
use Rattle.kr_seen.specs.pr_base.declared.errno.Errno.TheVariants.{EINVAL, EFBIG, ENOSPC}
use Rattle.kr_seen.specs.kr_tree.Tree.{body_is, is_file}
use Rattle.kr_seen.specs.kr_tree.Changes.{has_no_room_for, is_past_file}
use Rattle.kr_seen.specs.kr_model.Applied.{applied, images}
use Rattle.kr_seen.specs.kr_model.Change.{SetSize}
use Rattle.kr_seen.specs.kr_model.FileRows.{is_file_open}
use Rattle.kr_seen.specs.kr_model.Known.{known}
use Rattle.kr_seen.specs.kr_model.Reply.{answers}
use Rattle.kr_seen.specs.kr_model.State as model
use Rattle.kr_seen.specs.kr_ops.Meaning.{meaning}
use Rattle.kr_seen.proofs.PerformLemmas.{by-refusal, by-reply}
use Rattle.kr_transfer.specs.Channels.{inode_under}
use Rattle.kr_transfer.proofs.ChannelLemmas.{file-there, writable-is}
use Rattle.kr_transfer.proofs.SizeLemmas.{too-big, full, fits, no-error}
use Rattle.kr_transfer.proofs.sizes.cut.Goals as goal

pub returns-then-not-is_writable_file-clause-performs : goal.returns-then-not-is_writable_file-clause-performs
returns-then-not-is_writable_file-clause-performs g c = λ some o h.
    by-refusal c.args.pid _ c.args.state.now c.args.state.now c.refused.result c.requires.view.lawful.pids EINVAL
    (cond-true _ _ _ (ap not (writable-is (known model.image_layout c.args.pid (meaning c.args.state.now)) c.args.channel o h false c.if-not-is_writable_file.ensures))) c.refused.ensures refl

pub set_size-requires : goal.set_size-requires
set_size-requires g c =
    let here = c.requires.here in
    let writable = and_parts (is_file_open here.opened.what) here.opened.write (writable-is (known model.image_layout c.args.pid (meaning c.args.state.now)) c.args.channel here.opened here.channel true c.if-not-is_writable_file.ensures) in
    (lit< tt, ap (body_is is_file c.args.state.now.tree) c.inode_of.ensures ∙ file-there c.args.state.now c.args.pid c.requires.view c.args.channel here.opened here.channel writable.0)

pub returns-in-Ok-clause-performs : goal.returns-in-Ok-clause-performs
returns-in-Ok-clause-performs g c = λ some o h.
    let writable = and_parts (is_file_open o.what) o.write (writable-is (known model.image_layout c.args.pid (meaning c.args.state.now)) c.args.channel o h true c.if-not-is_writable_file.ensures) in
    by-reply c.args.pid _ c.args.state.now c.set_size.new.self c.number.result c.requires.view.lawful.pids (answers 0 (SetSize (inode_under c.args.channel.host) c.args.len ∷ []))
    (fits c.args.state.now c.args.pid c.requires.view c.args.channel o h writable.0 c.args.len writable.1
    (false_from_ne_true _ (λ past. no-error (c.in-Ok.ensures.too_big.1 past)))
    (ap (λ i. not (is_past_file c.args.len) && has_no_room_for i c.args.len c.args.state.now.tree) (sym c.inode_of.ensures) ∙ false_from_ne_true _ (λ room. no-error (c.in-Ok.ensures.full.1 room))))
    c.number.ensures
    (λ mounts. subst (λ i. meaning c.set_size.new.self ≡ applied images mounts c.args.pid (SetSize i c.args.len) (meaning c.args.state.now)) c.inode_of.ensures (c.in-Ok.ensures.ok 0 mounts))

pub returns-in-Err-TooBig-clause-performs : goal.returns-in-Err-TooBig-clause-performs
returns-in-Err-TooBig-clause-performs g c = λ some o h.
    let writable = and_parts (is_file_open o.what) o.write (writable-is (known model.image_layout c.args.pid (meaning c.args.state.now)) c.args.channel o h true c.if-not-is_writable_file.ensures) in
    by-refusal c.args.pid _ c.args.state.now c.set_size.new.self c.refused-in-Err-TooBig.result c.requires.view.lawful.pids EFBIG
    (too-big c.args.state.now c.args.pid c.requires.view c.args.channel o h writable.0 c.args.len writable.1 (c.in-Err-TooBig.ensures.too_big.0 (ap Err c.in-Err-TooBig.field-0-is))) c.refused-in-Err-TooBig.ensures c.in-Err-TooBig.ensures.err

pub returns-in-Err-Full-clause-performs : goal.returns-in-Err-Full-clause-performs
returns-in-Err-Full-clause-performs g c = λ some o h.
    let writable = and_parts (is_file_open o.what) o.write (writable-is (known model.image_layout c.args.pid (meaning c.args.state.now)) c.args.channel o h true c.if-not-is_writable_file.ensures) in
    by-refusal c.args.pid _ c.args.state.now c.set_size.new.self c.refused-in-Err-Full.result c.requires.view.lawful.pids ENOSPC
    (full c.args.state.now c.args.pid c.requires.view c.args.channel o h writable.0 c.args.len writable.1 (ap (λ i. not (is_past_file c.args.len) && has_no_room_for i c.args.len c.args.state.now.tree) (sym c.inode_of.ensures) ∙ c.in-Err-Full.ensures.full.0 (ap Err c.in-Err-Full.field-0-is))) c.refused-in-Err-Full.ensures c.in-Err-Full.ensures.err
