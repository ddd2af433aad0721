use Rattle.std.proofs.Common.{◌≡◌, ◌+◌, ◌-◌, arith}
use Rattle.pt_ident.specs.kr_calls.Expansion.{bytes_with_ends}
use Rattle.kr_exec.specs.Lists.{most_bytes}
use Rattle.pt_faker.proofs.StopLemmas.{only-then}
use Rattle.pt_faker.proofs.AuxiliaryLemmas.{there-still}
use Rattle.pt_faker.proofs.ReadLemmas.{lists-break, lists-read, lists-stop}
use Rattle.pt_faker.proofs.lists.read_lists.Goals as goal

pub returns-in-Err-clause-read : goal.returns-in-Err-clause-read
returns-in-Err-clause-read g c =
    lists-stop c.args.args c.args.env (g.T.Tracee.stopped c.args.t.now) (g.T.Tracee.stopped c.read_list.new.t) c.pid-pid.ensures.lives c.in-Err.fault c.in-Err.ensures.read

pub returns-in-Ok-read_list-clause-read : goal.returns-in-Ok-read_list-clause-read
returns-in-Ok-read_list-clause-read g c =
    let t = g.T.Tracee.stopped c.args.t.now in
    let u = g.T.Tracee.stopped c.read_list.new.t in
    let given = c.in-Ok-or_one_empty.args in
    let rooms : given.room ≡ most_bytes - bytes_with_ends given.texts = omega (arith, c.in-Ok.ensures.room, c.in-Ok-or_one_empty.ensures.room) in
    let size : given.room - c.in-Ok-read_list.env.room ≡ bytes_with_ends c.in-Ok-read_list.env.texts = omega (arith, c.in-Ok-read_list.ensures.room) in
    lists-read c.args.args c.args.env t u c.pid-pid.ensures.lives c.in-Ok.args.texts given.texts given.room (there-still t u c.pid-pid.ensures.lives c.in-Ok.ensures.edits.edits) c.in-Ok.ensures.read c.in-Ok-or_one_empty.ensures.texts rooms
    (g.T.Tracee.stopped c.read_list-2.new.t) c.in-Ok-read_list.env.texts _ size c.in-Ok-read_list.ensures.read

pub returns-in-Ok-read_list-clause-edits : goal.returns-in-Ok-read_list-clause-edits
returns-in-Ok-read_list-clause-edits g c = only-then c.in-Ok.ensures.edits c.in-Ok-read_list.ensures.edits

pub returns-in-Err-read_list-clause-read : goal.returns-in-Err-read_list-clause-read
returns-in-Err-read_list-clause-read g c =
    let t = g.T.Tracee.stopped c.args.t.now in
    let u = g.T.Tracee.stopped c.read_list.new.t in
    let given = c.in-Ok-or_one_empty.args in
    let rooms : given.room ≡ most_bytes - bytes_with_ends given.texts = omega (arith, c.in-Ok.ensures.room, c.in-Ok-or_one_empty.ensures.room) in
    lists-break c.args.args c.args.env t u c.pid-pid.ensures.lives c.in-Ok.args.texts given.texts given.room (there-still t u c.pid-pid.ensures.lives c.in-Ok.ensures.edits.edits) c.in-Ok.ensures.read c.in-Ok-or_one_empty.ensures.texts rooms
    (g.T.Tracee.stopped c.read_list-2.new.t) c.in-Err-read_list.fault c.in-Err-read_list.ensures.read

pub returns-in-Err-read_list-clause-edits : goal.returns-in-Err-read_list-clause-edits
returns-in-Err-read_list-clause-edits g c = only-then c.in-Ok.ensures.edits c.in-Err-read_list.ensures.edits
