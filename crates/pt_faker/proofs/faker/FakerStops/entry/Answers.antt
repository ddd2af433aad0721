use Rattle.kr_stops.proofs.EditLemmas.{edited-then}
use Rattle.pt_faker.proofs.StopLemmas.{request-edits}
use Rattle.pt_faker.proofs.faker.FakerStops.entry.Goals as goal

pub returns-in-Ok-clause-edits : goal.returns-in-Ok-clause-edits
returns-in-Ok-clause-edits g c =
    let t = g.T.Tracee.stopped c.args.t.now in
    let u = g.T.Tracee.stopped c.request.new.self in
    edited-then t u _ (request-edits t c.pid-pid.ensures.lives u c.in-Ok.ensures.after) c.take_up.ensures.edits.edits

pub returns-in-Err-Err-clause-edits : goal.returns-in-Err-Err-clause-edits
returns-in-Err-Err-clause-edits g c = request-edits (g.T.Tracee.stopped c.args.t.now) c.pid-pid.ensures.lives (g.T.Tracee.stopped c.request.new.self) c.in-Err-Err.ensures.after

pub returns-in-Err-NoMemory-clause-edits : goal.returns-in-Err-NoMemory-clause-edits
returns-in-Err-NoMemory-clause-edits g c = request-edits (g.T.Tracee.stopped c.args.t.now) c.pid-pid.ensures.lives (g.T.Tracee.stopped c.request.new.self) c.in-Err-NoMemory.ensures.after
