use Rattle.std.proofs.Common.{ℕ, List, [], sym, ap}
use Rattle.kr_seen.specs.pr_base.declared.errno.Errno.TheVariants.{EFAULT}
use Rattle.kr_seen.specs.rv_mem.Actions.{write_if_allowed}
use Rattle.kr_seen.specs.kr_model.Reply.{Replying, done, refuse}
use Rattle.kr_seen.proofs.PerformLemmas.{by-row}
use Rattle.kr_attributes.proofs.stats.tell.Goals as goal

pub returns-clause-performs : goal.returns-clause-performs
returns-clause-performs g c = λ some.
    let row : List ℕ → Replying = λ bytes. write_if_allowed c.args.buf bytes (refuse EFAULT) (done 0 []) in
    by-row c.args.pid _ c.args.state.now c.tell.new.state c.tell.result c.requires.sound.pids (λ _. row c.stat_bytes.result) (ap row (sym c.stat_bytes.ensures)) (c.tell.ensures.performs some)
