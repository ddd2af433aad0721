use Rattle.std.proofs.Common.{Err, length, pos, sym, ap, ◌∙◌, [], ◌∷◌}
use Rattle.kr_seen.specs.pr_base.declared.errno.Errno.TheVariants.{EFAULT}
use Rattle.kr_seen.specs.rv_mem.Actions.{write_if_allowed}
use Rattle.kr_seen.specs.kr_model.Change.{Seek}
use Rattle.kr_seen.specs.kr_model.Reply.{Replying, answers, done, refuse}
use Rattle.kr_seen.specs.kr_model.declared.outcome.Outcome.TheVariants.{Answer}
use Rattle.kr_seen.proofs.UsingLemmas.{begins, by-uses, refused-after, unwritable, writes-allowed}
use Rattle.kr_transfer.proofs.entries.tell.Goals as goal

pub returns-in-Ok-clause-performs : goal.returns-in-Ok-clause-performs
returns-in-Ok-clause-performs g c = λ some.
    let old = c.args.state.now in
    let all = c.args.all.now.bytes in
    let next : Replying = done (length all) (Seek c.args.fd c.args.all.now.last ∷ []) in
    by-uses c.args.pid _ old c.write.new.state c.seek.new.self c.number.result (answers (length all) (Seek c.args.fd c.args.all.now.last ∷ [])) c.in-Ok.ensures.ok.leaves.sound.pids
    (writes-allowed c.args.pid _ old old c.args.buf c.as_slice.result.now (refuse EFAULT) next c.write.new.state c.requires.caller.lives c.in-Ok.ensures.ok
    (begins c.args.pid _ old _ (ap (λ bytes. write_if_allowed c.args.buf bytes (refuse EFAULT) next) (sym c.as_slice.ensures))))
    (c.number.ensures ∙ ap (λ n. Answer (pos n)) c.len.ensures)
    (λ mounts. c.seek.ensures.makes mounts)

pub returns-in-Err-BadAddress-clause-performs : goal.returns-in-Err-BadAddress-clause-performs
returns-in-Err-BadAddress-clause-performs g c = λ some.
    let old = c.args.state.now in
    let all = c.args.all.now.bytes in
    let next : Replying = done (length all) (Seek c.args.fd c.args.all.now.last ∷ []) in
    refused-after c.args.pid _ old old c.write.new.state c.refused.result EFAULT c.requires.caller.sound.pids
    (unwritable c.args.pid _ old old c.args.buf c.as_slice.result.now (refuse EFAULT) next
    (c.write.ensures.bad.0 (c.in-Err-BadAddress.is ∙ ap (λ x. Err x) c.in-Err-BadAddress.field-0-is))
    (begins c.args.pid _ old _ (ap (λ bytes. write_if_allowed c.args.buf bytes (refuse EFAULT) next) (sym c.as_slice.ensures))))
    c.refused.ensures c.in-Err-BadAddress.ensures.err.same
