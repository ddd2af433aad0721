use Rattle.std.proofs.Common.{◌∙◌}
use Rattle.kr_stops.proofs.EditLemmas.{edited-then}
use Rattle.pt_faker.proofs.AuxiliaryLemmas.{there-still}
use Rattle.pt_faker.proofs.StopLemmas.{register-edits}
use Rattle.pt_faker.proofs.registers.tell.Goals as goal

pub returns-clause-edits : goal.returns-clause-edits
returns-clause-edits g c =
    let t = g.T.Tracee.stopped c.args.t.now in
    let u = g.T.Tracee.stopped c.set_reg.new.self in
    let first = register-edits t c.pid-pid.ensures.lives u 17 c.args.number c.set_reg.ensures.set in
    record {
      edits = edited-then t u _ first (register-edits u (there-still t u c.pid-pid.ensures.lives first) _ 10 _ c.set_reg-2.ensures.set);
      rest = c.set_reg-2.ensures.rest ∙ c.set_reg.ensures.rest;
    }
