use Rattle.std.proofs.Common.{Err, refl, ap, ◌∙◌, []}
use Rattle.kr_ops.specs.pr_base.declared.errno.Errno.TheVariants.{EFAULT}
use Rattle.kr_ops.specs.kr_model.Reply.{done, refuse}
use Rattle.kr_seen.proofs.UsingLemmas.{begins, refused-after, unwritable}
use Rattle.kr_seen.proofs.caller.tell.Goals as goal

pub returns-in-Err-BadAddress-clause-performs : goal.returns-in-Err-BadAddress-clause-performs
returns-in-Err-BadAddress-clause-performs g c = λ some.
    let old = c.args.state.now in
    refused-after c.args.pid _ old old c.write.new.state c.refused.result EFAULT c.requires.sound.pids
    (unwritable c.args.pid _ old old c.args.at c.args.bytes.now (refuse EFAULT) (done c.args.answer [])
    (c.write.ensures.bad.0 (c.in-Err-BadAddress.is ∙ ap (λ x. Err x) c.in-Err-BadAddress.field-0-is))
    (begins c.args.pid _ old _ refl))
    c.refused.ensures c.in-Err-BadAddress.ensures.err.same
