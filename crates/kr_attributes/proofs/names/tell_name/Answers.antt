use Rattle.std.proofs.Common.{Err, refl, ap, ◌∙◌, [], length}
use Rattle.kr_seen.specs.pr_base.declared.errno.Errno.TheVariants.{EFAULT}
use Rattle.kr_seen.specs.kr_model.Reply.{done, refuse}
use Rattle.kr_seen.proofs.UsingLemmas.{begins, refused-after, unwritable}
use Rattle.kr_attributes.proofs.names.tell_name.Goals as goal

pub returns-in-Err-BadAddress-clause-performs : goal.returns-in-Err-BadAddress-clause-performs
returns-in-Err-BadAddress-clause-performs g c = λ some.
    let old = c.args.state.now in
    refused-after c.args.pid _ old old c.write.new.state c.refused.result EFAULT c.requires.sound.pids
    (unwritable c.args.pid _ old old c.args.buf c.args.bytes.now (refuse EFAULT) (done (length c.args.bytes.now) [])
    (c.write.ensures.bad.0 (c.in-Err-BadAddress.is ∙ ap (λ x. Err x) c.in-Err-BadAddress.field-0-is))
    (begins c.args.pid _ old _ refl))
    c.refused.ensures c.in-Err-BadAddress.ensures.err.same
