use Rattle.std.proofs.Common.{◌≡◌, ◌+◌, true, sym, ap, subst, ◌∙◌, [], ◌∷◌, Err, lit<, length}
use Rattle.std.specs.Prelude.{◌&&◌, not}
use Rattle.std.proofs.lemmas.Bool.{false_from_ne_true}
use Rattle.kr_seen.specs.pr_base.declared.errno.Errno.TheVariants.{ENOSPC}
use Rattle.kr_seen.specs.kr_tree.Tree.{body_is, is_file}
use Rattle.kr_seen.specs.kr_tree.Changes.{has_no_room_for, is_past_file, size, size_written}
use Rattle.kr_seen.specs.kr_model.Applied.{applied, images}
use Rattle.kr_seen.specs.kr_model.Change.{Seek, WriteFile}
use Rattle.kr_seen.specs.kr_model.Known.{known}
use Rattle.kr_seen.specs.kr_model.Reply.{answers}
use Rattle.kr_seen.specs.kr_model.State as model
use Rattle.kr_seen.specs.kr_ops.Meaning.{meaning}
use Rattle.kr_transfer.specs.Channels.{inode_under}
use Rattle.kr_transfer.proofs.ChannelLemmas.{file-there}
use Rattle.kr_transfer.proofs.ReadingLemmas.{file-open}
use Rattle.kr_transfer.proofs.SizeLemmas.{no-error}
use Rattle.kr_transfer.proofs.WritingLemmas.{has-room, never-past, no-room, written-sound}
use Rattle.kr_transfer.proofs.WrittenLemmas.{file-differs, wrote-refusal, wrote-reply}
use Rattle.kr_transfer.proofs.writing.put_in_file.Goals as goal

pub differ_from-differs-requires : goal.differ_from-differs-requires
differ_from-differs-requires g c =
    let here = c.requires.here in
    (lit< tt, ap (body_is is_file c.args.state.now.tree) c.inode_of-file.ensures ∙ file-there c.args.state.now c.args.pid c.requires.caller.view c.args.channel here.opened here.channel (file-open (known model.image_layout c.args.pid (meaning c.args.state.now)) c.args.channel here.opened here.channel c.requires.file))

pub write_file-requires : goal.write_file-requires
write_file-requires g c =
    let here = c.requires.here in
    (lit< tt, ap (body_is is_file c.args.state.now.tree) c.inode_of-file.ensures ∙ file-there c.args.state.now c.args.pid c.requires.caller.view c.args.channel here.opened here.channel (file-open (known model.image_layout c.args.pid (meaning c.args.state.now)) c.args.channel here.opened here.channel c.requires.file))

pub unreachable-requires : goal.unreachable-requires
unreachable-requires g c =
    let s = c.args.state.now in
    let k = known model.image_layout c.args.pid (meaning s) in
    let d = c.args.channel in
    let o = c.requires.here.opened in
    let h = c.requires.here.channel in
    let file = file-open k d o h c.requires.file in
    let there = file-there s c.args.pid c.requires.caller.view d o h file in
    let never = never-past s c.args.pid c.requires.caller.view d o h file there c.args.at c.args.bytes.now c.requires.some c.requires.limited in
    let past : is_past_file (size_written c.args.at (length c.args.bytes.now) (size s.tree (inode_under d.host))) ≡ true =
    ap (λ i. is_past_file (size_written c.args.at (length c.args.bytes.now) (size s.tree i))) (sym c.inode_of-file.ensures) ∙ c.in-Err-TooBig.ensures.too_big.0 (ap Err c.in-Err-TooBig.field-0-is) in
    cc

pub seek-requires : goal.seek-requires
seek-requires g c =
    let s = c.args.state.now in
    let k = known model.image_layout c.args.pid (meaning s) in
    let d = c.args.channel in
    let o = c.requires.here.opened in
    let h = c.requires.here.channel in
    let file = file-open k d o h c.requires.file in
    let there = file-there s c.args.pid c.requires.caller.view d o h file in
    let n = length c.args.bytes.now in (
      lit< tt,
      written-sound s c.args.pid c.requires.caller.view d o h file there c.args.at c.args.bytes.now c.requires.some c.requires.limited
          (ap (λ i. not (is_past_file (size_written c.args.at n (size s.tree i))) && has_no_room_for i (size_written c.args.at n (size s.tree i)) s.tree) (sym c.inode_of-file.ensures)
          ∙ false_from_ne_true _ (λ full. no-error (c.in-Ok.ensures.full.1 full)))
          c.write_file.new.self c.are_bytes.ensures (c.in-Ok.ensures.served c.requires.caller.view.served) c.requires.caller.lives
          (λ mounts. subst (λ i. meaning c.write_file.new.self ≡ applied images mounts c.args.pid (WriteFile i c.args.at c.args.bytes.now) (meaning s)) c.inode_of-file.ensures (c.in-Ok.ensures.ok c.args.pid mounts)),
    )

pub returns-in-Ok-clause-writes : goal.returns-in-Ok-clause-writes
returns-in-Ok-clause-writes g c = λ some o h.
    let s = c.args.state.now in
    let k = known model.image_layout c.args.pid (meaning s) in
    let d = c.args.channel in
    let file = file-open k d o h c.requires.file in
    let there = file-there s c.args.pid c.requires.caller.view d o h file in
    let n = length c.args.bytes.now in
    wrote-reply c.args.pid _ s c.seek.new.self c.number.result c.differ_from-differs.result c.requires.caller.view.lawful.pids (answers n (WriteFile (inode_under d.host) c.args.at c.args.bytes.now ∷ Seek d.fd (c.args.at + n) ∷ []))
    (has-room s c.args.pid c.requires.caller.view d o h file there c.args.at c.args.bytes.now c.requires.some c.requires.limited
    (ap (λ i. not (is_past_file (size_written c.args.at n (size s.tree i))) && has_no_room_for i (size_written c.args.at n (size s.tree i)) s.tree) (sym c.inode_of-file.ensures)
    ∙ false_from_ne_true _ (λ full. no-error (c.in-Ok.ensures.full.1 full))) d.fd)
    c.number.ensures
    (λ mounts. c.seek.ensures.makes mounts ∙ ap (applied images mounts c.args.pid (Seek d.fd (c.args.at + n)))
    (subst (λ i. meaning c.write_file.new.self ≡ applied images mounts c.args.pid (WriteFile i c.args.at c.args.bytes.now) (meaning s)) c.inode_of-file.ensures (c.in-Ok.ensures.ok c.args.pid mounts)))
    (file-differs s.tree c.inode_of-file.result (inode_under d.host) c.args.at d.fd (c.args.at + n) c.args.bytes.now c.differ_from-differs.result c.inode_of-file.ensures c.requires.some c.differ_from-differs.ensures)

pub returns-in-Err-Full-clause-writes : goal.returns-in-Err-Full-clause-writes
returns-in-Err-Full-clause-writes g c = λ some o h.
    let s = c.args.state.now in
    let k = known model.image_layout c.args.pid (meaning s) in
    let d = c.args.channel in
    let file = file-open k d o h c.requires.file in
    let there = file-there s c.args.pid c.requires.caller.view d o h file in
    let n = length c.args.bytes.now in
    wrote-refusal c.args.pid _ s c.write_file.new.self c.refused.result c.requires.caller.view.lawful.pids ENOSPC
    (no-room s c.args.pid c.requires.caller.view d o h file there c.args.at c.args.bytes.now c.requires.some c.requires.limited
    (ap (λ i. not (is_past_file (size_written c.args.at n (size s.tree i))) && has_no_room_for i (size_written c.args.at n (size s.tree i)) s.tree) (sym c.inode_of-file.ensures)
    ∙ c.in-Err-Full.ensures.full.0 (ap Err c.in-Err-Full.field-0-is)) d.fd) c.refused.ensures c.in-Err-Full.ensures.err
