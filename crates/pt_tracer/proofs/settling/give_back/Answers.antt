use Rattle.pt_faker.proofs.StopLemmas.{only-then}
use Rattle.pt_tracer.proofs.settling.give_back.Goals as goal

pub returns-in-Some-clause-edits : goal.returns-in-Some-clause-edits
returns-in-Some-clause-edits g c = only-then c.return_registers.ensures.edits c.settle_due.ensures.edits
