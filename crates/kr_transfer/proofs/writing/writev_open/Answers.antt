use Rattle.std.proofs.Common.{List, refl, sym, ap, subst, ◌∙◌, lit<, Err}
use Rattle.std.specs.Prelude.{not, if◌then◌else◌}
use Rattle.kr_seen.specs.pr_base.declared.errno.Errno.TheVariants.{EBADF, EISDIR}
use Rattle.kr_seen.specs.kr_model.FileRows.{is_dir, write_pieces}
use Rattle.kr_seen.specs.kr_model.Known.{known}
use Rattle.kr_seen.specs.kr_model.Pieces.{asked, with_list}
use Rattle.kr_seen.specs.kr_model.Reply.{refuse}
use Rattle.kr_seen.specs.kr_model.State as model
use Rattle.kr_seen.specs.kr_ops.Meaning.{meaning}
use Rattle.kr_seen.specs.Using.{HasComeTo}
use Rattle.kr_seen.proofs.UsingLemmas.{begins}
use Rattle.kr_transfer.specs.Moving.{told}
use Rattle.kr_transfer.specs.declared.pieces.Piece.{Piece}
use Rattle.kr_transfer.proofs.ListLemmas.{no-want, why}
use Rattle.kr_transfer.proofs.MovingLemmas.{comes-then}
use Rattle.kr_transfer.proofs.ReadingLemmas.{write-goes-on, write-refused}
use Rattle.kr_transfer.proofs.SizeLemmas.{no-error}
use Rattle.kr_transfer.proofs.ViewLemmas.{view-read}
use Rattle.kr_transfer.proofs.WritingLemmas.{still-channel, still-open}
use Rattle.kr_transfer.proofs.WrittenLemmas.{tree-read, wrote-refusal, wrote-refused, wrote-then}
use Rattle.kr_transfer.proofs.writing.writev_open.Goals as goal

pub returns-in-Some-clause-writes : goal.returns-in-Some-clause-writes
returns-in-Some-clause-writes g c = λ some o h.
    let k = known model.image_layout c.args.pid (meaning c.args.state.now) in
    wrote-refusal c.args.pid _ c.args.state.now c.args.state.now c.refused.result c.requires.caller.view.lawful.pids c.in-Some.errno
    (write-refused k c.args.channel o h (with_list c.args.list c.args.count (write_pieces k c.args.channel.fd o)) c.in-Some.errno c.in-Some.ensures) c.refused.ensures refl

pub write_pieces-requires : goal.write_pieces-requires
write_pieces-requires g c =
    let reads = c.in-Ok.ensures.reads (λ e. no-error e) in (
      lit< tt,
      (
        record { view = view-read c.args.state.now c.requires.caller.view c.read_list.new.state c.args.pid reads; lives = reads.leaves.lives },
        (
          still-open c.args.pid c.args.channel c.args.state.now c.read_list.new.state reads.leaves.known c.requires.here,
          record { asked = c.in-Ok.ensures.counted.0 ∙ ap (λ (ps : List Piece). asked (told ps)) (sym c.as_slice.ensures.value); limited = c.in-Ok.ensures.counted.1 },
        ),
      ),
    )

pub returns-in-Ok-clause-writes : goal.returns-in-Ok-clause-writes
returns-in-Ok-clause-writes g c = λ some o h.
    let k = known model.image_layout c.args.pid (meaning c.args.state.now) in
    let fd = c.args.channel.fd in
    let old = c.args.state.now in
    let mid = c.read_list.new.state in
    let reads = c.in-Ok.ensures.reads (λ e. no-error e) in
    wrote-then c.args.pid (λ k. if not o.write then refuse EBADF else if is_dir o.what then refuse EISDIR else with_list c.args.list c.args.count (write_pieces k fd o)) (λ k. write_pieces k fd o (told c.as_slice.result.now)) old mid c.write_pieces.new.state c.write_pieces.result
    (comes-then c.args.pid _ _ _ old old mid
    (begins c.args.pid (if not o.write then refuse EBADF else if is_dir o.what then refuse EISDIR else with_list c.args.list c.args.count (write_pieces k fd o)) old (with_list c.args.list c.args.count (write_pieces k fd o))
    (write-goes-on k c.args.channel o h (with_list c.args.list c.args.count (write_pieces k fd o)) c.in_default.ensures))
    (subst (λ (ps : List Piece). HasComeTo c.args.pid (with_list c.args.list c.args.count (write_pieces k fd o)) old (write_pieces k fd o (told ps)) mid) (sym c.as_slice.ensures.value) (c.in-Ok.ensures.ok (write_pieces k fd o))))
    reads.leaves.known (tree-read c.args.pid old mid reads) (c.write_pieces.ensures.writes some o (still-channel c.args.pid c.args.channel o old mid reads.leaves.known h))

pub returns-in-Err-clause-writes : goal.returns-in-Err-clause-writes
returns-in-Err-clause-writes g c = λ some o h.
    let k = known model.image_layout c.args.pid (meaning c.args.state.now) in
    let fd = c.args.channel.fd in
    let old = c.args.state.now in
    let mid = c.read_list.new.state in
    why c.in-Err.fault
    (λ e is.
    let reads = c.in-Err.ensures.reads (no-want e c.in-Err.fault is) in
    wrote-refused c.args.pid (λ k. if not o.write then refuse EBADF else if is_dir o.what then refuse EISDIR else with_list c.args.list c.args.count (write_pieces k fd o)) old mid mid c.answer_of.result e reads.leaves.sound.pids
    (comes-then c.args.pid _ _ _ old old mid
    (begins c.args.pid (if not o.write then refuse EBADF else if is_dir o.what then refuse EISDIR else with_list c.args.list c.args.count (write_pieces k fd o)) old (with_list c.args.list c.args.count (write_pieces k fd o))
    (write-goes-on k c.args.channel o h (with_list c.args.list c.args.count (write_pieces k fd o)) c.in_default.ensures))
    (c.in-Err.ensures.refused e (ap Err is) (write_pieces k fd o)))
    (c.answer_of.ensures.refused e is) refl)
    (λ want. absurd (some (c.answer_of.ensures.memory want)))

pub returns-in-Err-clause-served : goal.returns-in-Err-clause-served
returns-in-Err-clause-served g c = λ some.
    why c.in-Err.fault (λ e is. (c.in-Err.ensures.reads (no-want e c.in-Err.fault is)).leaves.sound.served) (λ want. absurd (some (c.answer_of.ensures.memory want)))
