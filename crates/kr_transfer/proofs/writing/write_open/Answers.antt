use Rattle.std.proofs.Common.{refl, sym, ap, ◌∙◌, [], ◌∷◌}
use Rattle.std.specs.Prelude.{not, if◌then◌else◌}
use Rattle.kr_seen.specs.pr_base.declared.errno.Errno.TheVariants.{EBADF, EISDIR}
use Rattle.kr_seen.specs.kr_model.FileRows.{is_dir, write_pieces}
use Rattle.kr_seen.specs.kr_model.Known.{known}
use Rattle.kr_seen.specs.kr_model.Pieces.{one_piece}
use Rattle.kr_seen.specs.kr_model.Reply.{refuse}
use Rattle.kr_seen.specs.kr_model.State as model
use Rattle.kr_seen.specs.kr_ops.Meaning.{meaning}
use Rattle.kr_transfer.proofs.ReadingLemmas.{write-refused, write-goes-on}
use Rattle.kr_transfer.proofs.WrittenLemmas.{wrote-refusal, wrote-row}
use Rattle.kr_transfer.proofs.writing.write_open.Goals as goal

pub returns-in-Some-clause-writes : goal.returns-in-Some-clause-writes
returns-in-Some-clause-writes g c = λ some o h.
    let k = known model.image_layout c.args.pid (meaning c.args.state.now) in
    wrote-refusal c.args.pid _ c.args.state.now c.args.state.now c.refused.result c.requires.caller.view.lawful.pids c.in-Some.errno
    (write-refused k c.args.channel o h (write_pieces k c.args.channel.fd o (one_piece c.args.buf c.args.n)) c.in-Some.errno c.in-Some.ensures) c.refused.ensures refl

pub returns-clause-writes : goal.returns-clause-writes
returns-clause-writes g c = λ some o h.
    let k = known model.image_layout c.args.pid (meaning c.args.state.now) in
    wrote-row c.args.pid
    (λ k. if not o.write then refuse EBADF else if is_dir o.what then refuse EISDIR else write_pieces k c.args.channel.fd o (one_piece c.args.buf c.args.n))
    (λ k. write_pieces k c.args.channel.fd o (record { at = c.args.buf; count = c.min-count.result } ∷ []))
    c.args.state.now c.write_pieces.new.state c.write_pieces.result
    (write-goes-on k c.args.channel o h (write_pieces k c.args.channel.fd o (one_piece c.args.buf c.args.n)) c.in_default.ensures
    ∙ ap (λ n. write_pieces k c.args.channel.fd o (record { at = c.args.buf; count = n } ∷ [])) (sym c.min-count.ensures)) (c.write_pieces.ensures.writes some o h)
