use Rattle.std.proofs.Common.{◌+◌, refl, sym, ap, ◌∙◌, [], ◌∷◌, lit<, Err, length, take, drop, pos}
use Rattle.kr_seen.specs.kr_model.Applied.{applied, images}
use Rattle.kr_seen.specs.kr_model.Change.{Seek}
use Rattle.kr_seen.specs.kr_model.declared.outcome.Outcome.TheVariants.{Answer}
use Rattle.kr_seen.specs.kr_model.Known.{known}
use Rattle.kr_seen.specs.kr_model.State as model
use Rattle.kr_seen.specs.kr_ops.Meaning.{meaning}
use Rattle.kr_transfer.specs.Channels.{inode_under}
use Rattle.kr_transfer.specs.Moving.{bytes_at, told}
use Rattle.kr_transfer.proofs.ChannelLemmas.{file-there}
use Rattle.kr_transfer.proofs.ReadingLemmas.{by-fault, by-hand, by-none, file-open, file-row}
use Rattle.kr_transfer.proofs.reading.read_file.Goals as goal

pub file_part-requires : goal.file_part-requires
file_part-requires g c =
    let here = c.requires.here in
    (lit< tt, file-there c.args.state.now c.args.pid c.requires.caller.view c.args.channel here.opened here.channel (file-open (known model.image_layout c.args.pid (meaning c.args.state.now)) c.args.channel here.opened here.channel c.requires.file))

pub returns-then-is_empty-clause-performs : goal.returns-then-is_empty-clause-performs
returns-then-is_empty-clause-performs g c = λ some o h.
    let bytes = c.in-Ok.bytes in
    by-none c.args.pid _ c.args.state.now c.args.state.now c.number.result (told c.args.pieces.now) bytes (Seek c.args.channel.fd (c.args.channel.at + length bytes) ∷ [])
    (file-row c.args.state.now c.args.pid c.requires.caller.view c.args.channel o h (file-open (known model.image_layout c.args.pid (meaning c.args.state.now)) c.args.channel o h c.requires.file) (told c.args.pieces.now) bytes
    (c.in-Ok.ensures.bytes ∙ ap (λ n. take n (drop c.args.channel.at (bytes_at c.args.state.now.tree (inode_under c.args.channel.host)))) c.requires.count.asked))
    (c.is_empty.ensures.0 c.if-is_empty.true) c.requires.caller.view.lawful.pids c.number.ensures refl

pub returns-in-Ok-hand-clause-performs : goal.returns-in-Ok-hand-clause-performs
returns-in-Ok-hand-clause-performs g c = λ some o h.
    let bytes = c.as_slice.result.now in
    let at = c.args.channel.at in
    let fd = c.args.channel.fd in
    by-hand c.args.pid _ c.args.state.now c.seek.new.self c.number-in-Ok-hand.result (told c.args.pieces.now) bytes (Seek fd (at + length bytes) ∷ [])
    (file-row c.args.state.now c.args.pid c.requires.caller.view c.args.channel o h (file-open (known model.image_layout c.args.pid (meaning c.args.state.now)) c.args.channel o h c.requires.file) (told c.args.pieces.now) bytes
    (c.as_slice.ensures ∙ c.in-Ok.ensures.bytes ∙ ap (λ n. take n (drop at (bytes_at c.args.state.now.tree (inode_under c.args.channel.host)))) c.requires.count.asked))
    c.hand.new.state (c.in-Ok-hand.ensures.ok (Seek fd (at + length bytes) ∷ [])) c.in-Ok-hand.ensures.leaves.sound.pids
    (c.number-in-Ok-hand.ensures ∙ ap (λ n. Answer (pos n)) (c.len-in-Ok-hand.ensures ∙ ap length (sym c.as_slice.ensures)))
    (λ mounts. c.seek.ensures.makes mounts ∙ ap (λ n. applied images mounts c.args.pid (Seek fd (at + n)) (meaning c.hand.new.state)) (c.len.ensures ∙ ap length (sym c.as_slice.ensures)))

pub returns-in-Err-BadAddress-clause-performs : goal.returns-in-Err-BadAddress-clause-performs
returns-in-Err-BadAddress-clause-performs g c = λ some o h.
    let bytes = c.as_slice.result.now in
    let at = c.args.channel.at in
    let fd = c.args.channel.fd in
    by-fault c.args.pid _ c.args.state.now c.hand.new.state c.refused.result (told c.args.pieces.now) bytes (Seek fd (at + length bytes) ∷ [])
    (file-row c.args.state.now c.args.pid c.requires.caller.view c.args.channel o h (file-open (known model.image_layout c.args.pid (meaning c.args.state.now)) c.args.channel o h c.requires.file) (told c.args.pieces.now) bytes
    (c.as_slice.ensures ∙ c.in-Ok.ensures.bytes ∙ ap (λ n. take n (drop at (bytes_at c.args.state.now.tree (inode_under c.args.channel.host)))) c.requires.count.asked))
    c.requires.caller.view.lawful.pids (c.in-Err-BadAddress.ensures.bad (ap Err c.in-Err-BadAddress.field-0-is) (Seek fd (at + length bytes) ∷ [])) c.refused.ensures (c.in-Err-BadAddress.ensures.err (ap Err c.in-Err-BadAddress.field-0-is)).same
