use Rattle.std.proofs.Common.{◌≡◌, length, ap, arith}
use Rattle.pt_ident.specs.Identity.{numbers_in}
use Rattle.pt_faker.proofs.StopLemmas.{numbers_few, peek-edits}
use Rattle.pt_faker.proofs.memory.take_groups.Goals as goal

pub returns-in_err-groups-clause-edits : goal.returns-in_err-groups-clause-edits
returns-in_err-groups-clause-edits g c = record { edits = peek-edits (g.T.Tracee.stopped c.args.t.now) c.pid-pid.ensures.lives (g.T.Tracee.stopped c.peek.new.self) c.args.at _ c.in-Ok.ensures.after; rest = c.in-Ok.ensures.rest }

pub returns-clause-edits : goal.returns-clause-edits
returns-clause-edits g c = record { edits = peek-edits (g.T.Tracee.stopped c.args.t.now) c.pid-pid.ensures.lives (g.T.Tracee.stopped c.peek.new.self) c.args.at _ c.in-Ok.ensures.after; rest = c.in-Ok.ensures.rest }

pub set_groups-requires : goal.set_groups-requires
set_groups-requires g c =
    let is : length c.in_ok-groups.groups.items ≡ length (numbers_in c.as_slice.result.now) = ap length c.in_ok-groups.ensures in
    omega (arith, numbers_few c.as_slice.result.now, is, c.as_slice.ensures.len, c.in_ok-bytes.ensures.len)
