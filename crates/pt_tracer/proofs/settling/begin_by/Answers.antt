use Rattle.pt_tracer.proofs.WatchedLemmas.{begins-by}
use Rattle.pt_tracer.proofs.settling.begin_by.Goals as goal

pub returns-clause-begins : goal.returns-clause-begins
returns-clause-begins g c =
    begins-by c.args.table.now c.take.new.self c.keep.new.self c.pid-pid.result (g.T.Tracee.stopped c.args.t.now) (g.T.Tracee.stopped c.show_identity.new.t) c.pid-pid.ensures.pid c.in_ok-ids.ensures.ok c.in_ok-ids.ids c.in_ok-ids.ensures.identity
    c.after_exec.new.self c.reg-stack.result c.after_exec.ensures c.reg-stack.ensures c.in_ok-show_identity.ensures.shows c.in_ok-keep.ensures
