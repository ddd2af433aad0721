use Rattle.pt_tracer.proofs.WatchedLemmas.{answers-by}
use Rattle.pt_tracer.proofs.answering.answer_by.Goals as goal

pub returns-clause-answers : goal.returns-clause-answers
returns-clause-answers g c =
    answers-by c.args.table.now c.take.new.self c.keep.new.self c.pid-pid.result (g.T.Tracee.stopped c.args.t.now) (g.T.Tracee.stopped c.answer_call.new.t) c.pid-pid.ensures.pid c.in_ok-ids.ensures.ok c.in_ok-ids.ids c.in_ok-ids.ensures.identity
    c.answer_call.new.ids c.args.request.now c.in_ok-told.told c.in_ok-keep.ensures c.in_ok-told.ensures.answers
