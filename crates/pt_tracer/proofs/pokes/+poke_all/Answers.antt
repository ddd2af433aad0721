use Rattle.pt_faker.proofs.StopLemmas.{only-then}
use Rattle.pt_tracer.proofs.pokes.+poke_all.Goals as goal

pub returns-clause-edits : goal.returns-clause-edits
returns-clause-edits g n c = only-then c.in_ok-write_before.ensures.edits c.poke_all.ensures.edits
