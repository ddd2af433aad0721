use Rattle.std.proofs.Common.{[], take, arith}
use Rattle.kr_seen.specs.pr_base.declared.errno.Errno.TheVariants.{EFAULT}
use Rattle.kr_seen.specs.rv_mem.Actions.{write_if_allowed}
use Rattle.kr_seen.specs.kr_model.Reply.{done, refuse}
use Rattle.kr_seen.proofs.PerformLemmas.{by-row}
use Rattle.kr_attributes.proofs.TextLemmas.{tells}
use Rattle.kr_attributes.proofs.links.tell_text.Goals as goal

pub returns-clause-performs : goal.returns-clause-performs
returns-clause-performs g c = λ some.
    let n = c.min-count.result in
    let text = c.args.text.now in
    by-row c.args.pid _ c.args.state.now c.tell.new.state c.tell.result c.requires.sound.pids (λ _. write_if_allowed c.args.buf (take n text) (refuse EFAULT) (done n []))
    (tells c.args.buf c.args.size n text (omega arith) (λ cut. omega arith) (λ whole. omega arith)) (c.tell.ensures.performs some)
