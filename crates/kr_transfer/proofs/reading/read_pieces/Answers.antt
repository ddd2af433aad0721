use Rattle.std.proofs.Common.{refl, sym, ◌∙◌, []}
use Rattle.kr_seen.specs.pr_base.declared.errno.Errno.TheVariants.{EBADF, EISDIR}
use Rattle.kr_seen.specs.kr_files.declared.opened.What.TheVariants.{File, Dir, In, Out, Err, PipeRead, PipeWrite}
use Rattle.kr_seen.specs.kr_model.FileRows.{read_file, read_input, read_pieces, read_pipe}
use Rattle.kr_seen.specs.kr_model.Known.{known}
use Rattle.kr_seen.specs.kr_model.Reply.{answers}
use Rattle.kr_seen.specs.kr_model.State as model
use Rattle.kr_seen.specs.kr_ops.Meaning.{meaning}
use Rattle.kr_seen.proofs.PerformLemmas.{by-refusal, by-reply}
use Rattle.kr_transfer.specs.Moving.{told}
use Rattle.kr_transfer.proofs.ChannelLemmas.{by-row}
use Rattle.kr_transfer.proofs.ReadingLemmas.{reads-nothing, reads-what, what-is}
use Rattle.kr_transfer.proofs.reading.read_pieces.Goals as goal

pub returns-then-count-eq0-clause-performs : goal.returns-then-count-eq0-clause-performs
returns-then-count-eq0-clause-performs g c = λ some o h.
    by-reply c.args.pid _ c.args.state.now c.args.state.now c.number.result c.requires.caller.view.lawful.pids (answers 0 [])
    (reads-nothing (known model.image_layout c.args.pid (meaning c.args.state.now)) c.args.channel.fd o (told c.args.pieces.now) (sym c.requires.count.asked ∙ c.if-count-eq0.true)) c.number.ensures (λ mounts. refl)

pub returns-in-File-clause-performs : goal.returns-in-File-clause-performs
returns-in-File-clause-performs g c = λ some o h.
    let k = known model.image_layout c.args.pid (meaning c.args.state.now) in
    by-row c.args.pid c.args.state.now c.read_file.new.state c.read_file.result (λ k. read_pieces k c.args.channel.fd o (told c.args.pieces.now)) (λ k. read_file k c.args.channel.fd o (told c.args.pieces.now))
    (reads-what k c.args.channel.fd o (told c.args.pieces.now) File (λ none. c.if-count-eq0.false (c.requires.count.asked ∙ none)) (what-is k c.args.channel o h File c.in-File.is)) (c.read_file.ensures.performs some o h)

pub returns-in-In-clause-performs : goal.returns-in-In-clause-performs
returns-in-In-clause-performs g c = λ some o h.
    let k = known model.image_layout c.args.pid (meaning c.args.state.now) in
    by-row c.args.pid c.args.state.now c.read_input.new.state c.read_input.result (λ k. read_pieces k c.args.channel.fd o (told c.args.pieces.now)) (λ k. read_input k (told c.args.pieces.now))
    (reads-what k c.args.channel.fd o (told c.args.pieces.now) In (λ none. c.if-count-eq0.false (c.requires.count.asked ∙ none)) (what-is k c.args.channel o h In c.in-In.is)) (c.read_input.ensures.performs some o h)

pub returns-in-PipeRead-clause-performs : goal.returns-in-PipeRead-clause-performs
returns-in-PipeRead-clause-performs g c = λ some o h.
    let k = known model.image_layout c.args.pid (meaning c.args.state.now) in
    by-row c.args.pid c.args.state.now c.read_pipe.new.state c.read_pipe.result (λ k. read_pieces k c.args.channel.fd o (told c.args.pieces.now)) (λ k. read_pipe k c.in-PipeRead.pipe (told c.args.pieces.now) (k.pipe c.in-PipeRead.pipe))
    (reads-what k c.args.channel.fd o (told c.args.pieces.now) (PipeRead c.in-PipeRead.pipe) (λ none. c.if-count-eq0.false (c.requires.count.asked ∙ none)) (what-is k c.args.channel o h (PipeRead c.in-PipeRead.pipe) c.in-PipeRead.is)) (c.read_pipe.ensures.performs some o h)

pub returns-in-Dir-clause-performs : goal.returns-in-Dir-clause-performs
returns-in-Dir-clause-performs g c = λ some o h.
    let k = known model.image_layout c.args.pid (meaning c.args.state.now) in
    by-refusal c.args.pid _ c.args.state.now c.args.state.now c.refused.result c.requires.caller.view.lawful.pids EISDIR
    (reads-what k c.args.channel.fd o (told c.args.pieces.now) Dir (λ none. c.if-count-eq0.false (c.requires.count.asked ∙ none)) (what-is k c.args.channel o h Dir c.in-Dir.is)) c.refused.ensures refl

pub returns-in-Out-clause-performs : goal.returns-in-Out-clause-performs
returns-in-Out-clause-performs g c = λ some o h.
    let k = known model.image_layout c.args.pid (meaning c.args.state.now) in
    by-refusal c.args.pid _ c.args.state.now c.args.state.now c.refused-in-Out.result c.requires.caller.view.lawful.pids EBADF
    (reads-what k c.args.channel.fd o (told c.args.pieces.now) Out (λ none. c.if-count-eq0.false (c.requires.count.asked ∙ none)) (what-is k c.args.channel o h Out c.in-Out.is)) c.refused-in-Out.ensures refl

pub returns-in-Err-clause-performs : goal.returns-in-Err-clause-performs
returns-in-Err-clause-performs g c = λ some o h.
    let k = known model.image_layout c.args.pid (meaning c.args.state.now) in
    by-refusal c.args.pid _ c.args.state.now c.args.state.now c.refused-in-Err.result c.requires.caller.view.lawful.pids EBADF
    (reads-what k c.args.channel.fd o (told c.args.pieces.now) Err (λ none. c.if-count-eq0.false (c.requires.count.asked ∙ none)) (what-is k c.args.channel o h Err c.in-Err.is)) c.refused-in-Err.ensures refl

pub returns-in-PipeWrite-clause-performs : goal.returns-in-PipeWrite-clause-performs
returns-in-PipeWrite-clause-performs g c = λ some o h.
    let k = known model.image_layout c.args.pid (meaning c.args.state.now) in
    by-refusal c.args.pid _ c.args.state.now c.args.state.now c.refused-in-PipeWrite.result c.requires.caller.view.lawful.pids EBADF
    (reads-what k c.args.channel.fd o (told c.args.pieces.now) (PipeWrite c.in-PipeWrite.field-0) (λ none. c.if-count-eq0.false (c.requires.count.asked ∙ none)) (what-is k c.args.channel o h (PipeWrite c.in-PipeWrite.field-0) c.in-PipeWrite.is)) c.refused-in-PipeWrite.ensures refl
