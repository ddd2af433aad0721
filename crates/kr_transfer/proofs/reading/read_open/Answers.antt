use Rattle.std.proofs.Common.{refl, sym, ap, ◌∙◌, [], ◌∷◌}
use Rattle.std.specs.Prelude.{not, if◌then◌else◌}
use Rattle.kr_seen.specs.pr_base.declared.errno.Errno.TheVariants.{EBADF, EISDIR}
use Rattle.kr_seen.specs.kr_model.FileRows.{is_dir, read_pieces}
use Rattle.kr_seen.specs.kr_model.Known.{known}
use Rattle.kr_seen.specs.kr_model.Pieces.{one_piece}
use Rattle.kr_seen.specs.kr_model.Reply.{refuse}
use Rattle.kr_seen.specs.kr_model.State as model
use Rattle.kr_seen.specs.kr_ops.Meaning.{meaning}
use Rattle.kr_seen.proofs.PerformLemmas.{by-refusal}
use Rattle.kr_transfer.proofs.ChannelLemmas.{by-row}
use Rattle.kr_transfer.proofs.ReadingLemmas.{read-refused, read-goes-on}
use Rattle.kr_transfer.proofs.reading.read_open.Goals as goal

pub returns-in-Some-clause-performs : goal.returns-in-Some-clause-performs
returns-in-Some-clause-performs g c = λ some o h.
    let k = known model.image_layout c.args.pid (meaning c.args.state.now) in
    by-refusal c.args.pid _ c.args.state.now c.args.state.now c.refused.result c.requires.caller.view.lawful.pids c.in-Some.errno
    (read-refused k c.args.channel o h (read_pieces k c.args.channel.fd o (one_piece c.args.buf c.args.n)) c.in-Some.errno c.in-Some.ensures) c.refused.ensures refl

pub returns-clause-performs : goal.returns-clause-performs
returns-clause-performs g c = λ some o h.
    let k = known model.image_layout c.args.pid (meaning c.args.state.now) in
    by-row c.args.pid c.args.state.now c.read_pieces.new.state c.read_pieces.result
    (λ k. if not o.read then refuse EBADF else if is_dir o.what then refuse EISDIR else read_pieces k c.args.channel.fd o (one_piece c.args.buf c.args.n))
    (λ k. read_pieces k c.args.channel.fd o (record { at = c.args.buf; count = c.min-count.result } ∷ []))
    (read-goes-on k c.args.channel o h (read_pieces k c.args.channel.fd o (one_piece c.args.buf c.args.n)) c.in_default.ensures
    ∙ ap (λ n. read_pieces k c.args.channel.fd o (record { at = c.args.buf; count = n } ∷ [])) (sym c.min-count.ensures)) (c.read_pieces.ensures.performs some o h)
