use Rattle.std.proofs.Common.{lit<, arith, true, false, refl, sym, ◌∙◌, []}
use Rattle.kr_seen.specs.pr_base.declared.errno.Errno.TheVariants.{EFAULT}
use Rattle.kr_seen.specs.rv_mem.declared.rights.Use.TheVariants.{Read}
use Rattle.kr_seen.specs.kr_model.FileRows.{write_pieces, write_what}
use Rattle.kr_seen.specs.kr_model.Known.{known}
use Rattle.kr_seen.specs.kr_model.Reply.{answers}
use Rattle.kr_seen.specs.kr_model.State as model
use Rattle.kr_seen.specs.kr_ops.Meaning.{meaning}
use Rattle.kr_seen.specs.PerformedRows.{memory_of}
use Rattle.kr_transfer.specs.Moving.{told}
use Rattle.kr_transfer.proofs.WritingLemmas.{whole-allowed, writes-fault, writes-nothing, writes-what}
use Rattle.kr_transfer.proofs.WrittenLemmas.{wrote-refused, wrote-reply, wrote-then}
use Rattle.kr_transfer.proofs.writing.write_pieces.Goals as goal

pub returns-then-count-eq0-clause-writes : goal.returns-then-count-eq0-clause-writes
returns-then-count-eq0-clause-writes g c = λ some o h.
    wrote-reply c.args.pid _ c.args.state.now c.args.state.now c.number.result false c.requires.caller.view.lawful.pids (answers 0 [])
    (writes-nothing (known model.image_layout c.args.pid (meaning c.args.state.now)) c.args.channel.fd o (told c.args.pieces.now) (sym c.requires.count.asked ∙ c.if-count-eq0.true)) c.number.ensures (λ mounts. refl) refl

pub returns-then-not-may_use_all-clause-writes : goal.returns-then-not-may_use_all-clause-writes
returns-then-not-may_use_all-clause-writes g c = λ some o h.
    wrote-refused c.args.pid (λ k. write_pieces k c.args.channel.fd o (told c.args.pieces.now)) c.args.state.now c.args.state.now c.args.state.now c.refused.result EFAULT c.requires.caller.view.lawful.pids
    (writes-fault c.args.pid c.args.state.now c.args.channel.fd o (told c.args.pieces.now) (λ none. c.if-count-eq0.false (c.requires.count.asked ∙ none))
    (whole-allowed (memory_of c.args.pid (meaning c.args.state.now)).pages Read c.args.count (told c.args.pieces.now) false c.requires.count.asked c.if-not-may_use_all.ensures)) c.refused.ensures refl

pub write_readable-requires : goal.write_readable-requires
write_readable-requires g c =
    let no = c.if-count-eq0.false in
    (lit< tt, (c.requires.caller, (c.requires.here, (omega arith, (c.requires.count, (whole-allowed (memory_of c.args.pid (meaning c.args.state.now)).pages Read c.args.count (told c.args.pieces.now) true c.requires.count.asked c.if-not-may_use_all.ensures))))))

pub returns-clause-writes : goal.returns-clause-writes
returns-clause-writes g c = λ some o h.
    wrote-then c.args.pid (λ k. write_pieces k c.args.channel.fd o (told c.args.pieces.now)) (λ k. write_what k c.args.channel.fd o (told c.args.pieces.now) o.what) c.args.state.now c.args.state.now c.write_readable.new.state c.write_readable.result
    (writes-what c.args.pid c.args.state.now c.args.channel.fd o (told c.args.pieces.now) (λ none. c.if-count-eq0.false (c.requires.count.asked ∙ none)) o.what refl
    (whole-allowed (memory_of c.args.pid (meaning c.args.state.now)).pages Read c.args.count (told c.args.pieces.now) true c.requires.count.asked c.if-not-may_use_all.ensures)) refl refl (c.write_readable.ensures.writes some o h)
