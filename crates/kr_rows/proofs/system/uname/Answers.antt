use Rattle.std.proofs.Common.{List, ℕ, sym, ap, ◌∙◌, []}
use Rattle.kr_seen.specs.pr_base.declared.errno.Errno.TheVariants.{EFAULT}
use Rattle.kr_seen.specs.rv_mem.Actions.{write_if_allowed}
use Rattle.kr_seen.specs.kr_model.Reply.{Replying, done, refuse}
use Rattle.kr_seen.proofs.PerformLemmas.{by-row}
use Rattle.kr_rows.proofs.system.uname.Goals as goal

pub returns-in-Ok-clause-performs : goal.returns-in-Ok-clause-performs
returns-in-Ok-clause-performs g c = λ some.
    let row : List ℕ → Replying = λ bytes. write_if_allowed c.args.buf bytes (refuse EFAULT) (done 0 []) in
    by-row c.args.pid _ c.args.state.now c.tell.new.state c.tell.result c.requires.sound.pids (λ _. row c.as_slice.result.now)
    (ap row (sym (c.as_slice.ensures ∙ c.in-Ok.ensures))) (c.tell.ensures.performs some)
