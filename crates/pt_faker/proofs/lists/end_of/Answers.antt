use Rattle.pt_faker.proofs.ReadLemmas.{list-ends, list-passes, list-unread}
use Rattle.pt_faker.proofs.lists.end_of.Goals as goal

pub returns-in-Ok-eq0-clause-read : goal.returns-in-Ok-eq0-clause-read
returns-in-Ok-eq0-clause-read g c =
    list-ends c.args.at c.args.room c.args.texts (g.T.Tracee.stopped c.args.t.now) (g.T.Tracee.stopped c.read_address.new.t) c.pid-pid.ensures.lives c.in-Ok-eq0.field-0 c.in-Ok-eq0.field-0-test c.in-Ok-eq0.ensures.read

pub returns-in-Ok-clause-read : goal.returns-in-Ok-clause-read
returns-in-Ok-clause-read g c =
    list-passes c.args.at c.args.room c.args.texts (g.T.Tracee.stopped c.args.t.now) (g.T.Tracee.stopped c.read_address.new.t) c.pid-pid.ensures.lives c.in-Ok.field-0 c.in-Ok.field-0-test.1 c.in-Ok.ensures.read

pub returns-in-Err-clause-read : goal.returns-in-Err-clause-read
returns-in-Err-clause-read g c =
    list-unread c.args.at c.args.room c.args.texts (g.T.Tracee.stopped c.args.t.now) (g.T.Tracee.stopped c.read_address.new.t) c.pid-pid.ensures.lives c.in-Err.errno c.in-Err.ensures.read
