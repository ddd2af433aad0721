use Rattle.std.proofs.Common.{lit<, refl, ap}
use Rattle.kr_seen.specs.pr_base.declared.errno.Errno.TheVariants.{EBADF, EISDIR}
use Rattle.kr_seen.specs.kr_files.declared.opened.What.TheVariants.{File, Dir, In, Out, Err, PipeRead, PipeWrite}
use Rattle.kr_seen.specs.kr_model.FileRows.{write_file, write_place, write_what}
use Rattle.kr_seen.specs.kr_model.Known.{known}
use Rattle.kr_seen.specs.kr_model.State as model
use Rattle.kr_seen.specs.kr_ops.Meaning.{meaning}
use Rattle.kr_transfer.specs.Moving.{told}
use Rattle.kr_transfer.proofs.ReadingLemmas.{what-is}
use Rattle.kr_transfer.proofs.WrittenLemmas.{wrote-elsewhere, wrote-refusal, wrote-row}
use Rattle.kr_transfer.proofs.writing.write_readable.Goals as goal

pub write_file-requires : goal.write_file-requires
write_file-requires g c = (lit< tt, (c.requires.caller, (c.requires.here, (c.in-File.is, (c.requires.some, (c.requires.count, c.requires.allowed))))))

pub returns-in-File-clause-writes : goal.returns-in-File-clause-writes
returns-in-File-clause-writes g c = λ some o h.
    let k = known model.image_layout c.args.pid (meaning c.args.state.now) in
    wrote-row c.args.pid (λ k. write_what k c.args.channel.fd o (told c.args.pieces.now) o.what) (λ k. write_file k c.args.channel.fd o (told c.args.pieces.now) (write_place k o)) c.args.state.now c.write_file.new.state c.write_file.result
    (ap (write_what k c.args.channel.fd o (told c.args.pieces.now)) (what-is k c.args.channel o h File c.in-File.is)) (c.write_file.ensures.writes some o h)

pub returns-in-Out-clause-writes : goal.returns-in-Out-clause-writes
returns-in-Out-clause-writes g c = λ some o h.
    wrote-elsewhere c.args.pid c.args.state.now c.write_out.new.state c.write_out.result c.args.channel.fd o (told c.args.pieces.now) Out
    (what-is (known model.image_layout c.args.pid (meaning c.args.state.now)) c.args.channel o h Out c.in-Out.is) refl (c.write_out.ensures.performs some o h)

pub returns-in-Err-clause-writes : goal.returns-in-Err-clause-writes
returns-in-Err-clause-writes g c = λ some o h.
    wrote-elsewhere c.args.pid c.args.state.now c.write_err.new.state c.write_err.result c.args.channel.fd o (told c.args.pieces.now) Err
    (what-is (known model.image_layout c.args.pid (meaning c.args.state.now)) c.args.channel o h Err c.in-Err.is) refl (c.write_err.ensures.performs some o h)

pub returns-in-PipeWrite-clause-writes : goal.returns-in-PipeWrite-clause-writes
returns-in-PipeWrite-clause-writes g c = λ some o h.
    wrote-elsewhere c.args.pid c.args.state.now c.write_pipe.new.state c.write_pipe.result c.args.channel.fd o (told c.args.pieces.now) (PipeWrite c.in-PipeWrite.pipe)
    (what-is (known model.image_layout c.args.pid (meaning c.args.state.now)) c.args.channel o h (PipeWrite c.in-PipeWrite.pipe) c.in-PipeWrite.is) refl (c.write_pipe.ensures.performs some o h)

pub returns-in-Dir-clause-writes : goal.returns-in-Dir-clause-writes
returns-in-Dir-clause-writes g c = λ some o h.
    let k = known model.image_layout c.args.pid (meaning c.args.state.now) in
    wrote-refusal c.args.pid (λ k. write_what k c.args.channel.fd o (told c.args.pieces.now) o.what) c.args.state.now c.args.state.now c.refused.result c.requires.caller.view.lawful.pids EISDIR
    (ap (write_what k c.args.channel.fd o (told c.args.pieces.now)) (what-is k c.args.channel o h Dir c.in-Dir.is)) c.refused.ensures refl

pub returns-in-In-clause-writes : goal.returns-in-In-clause-writes
returns-in-In-clause-writes g c = λ some o h.
    let k = known model.image_layout c.args.pid (meaning c.args.state.now) in
    wrote-refusal c.args.pid (λ k. write_what k c.args.channel.fd o (told c.args.pieces.now) o.what) c.args.state.now c.args.state.now c.refused-in-In.result c.requires.caller.view.lawful.pids EBADF
    (ap (write_what k c.args.channel.fd o (told c.args.pieces.now)) (what-is k c.args.channel o h In c.in-In.is)) c.refused-in-In.ensures refl

pub returns-in-PipeRead-clause-writes : goal.returns-in-PipeRead-clause-writes
returns-in-PipeRead-clause-writes g c = λ some o h.
    let k = known model.image_layout c.args.pid (meaning c.args.state.now) in
    wrote-refusal c.args.pid (λ k. write_what k c.args.channel.fd o (told c.args.pieces.now) o.what) c.args.state.now c.args.state.now c.refused-in-PipeRead.result c.requires.caller.view.lawful.pids EBADF
    (ap (write_what k c.args.channel.fd o (told c.args.pieces.now)) (what-is k c.args.channel o h (PipeRead c.in-PipeRead.field-0) c.in-PipeRead.is)) c.refused-in-PipeRead.ensures refl
