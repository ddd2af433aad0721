use Rattle.pt_faker.proofs.StopLemmas.{only-then}
use Rattle.pt_tracer.proofs.registers.+set_all.Goals as goal

pub returns-clause-edits : goal.returns-clause-edits
returns-clause-edits g n c = only-then c.set_one.ensures.edits c.set_all.ensures.edits
