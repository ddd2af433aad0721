use Rattle.std.proofs.Common.{ap, subst, sym}
use Rattle.pt_results.specs.pt_canon.Remembering.{Agrees, Walking}
use Rattle.pt_results.proofs.pt_canon.RememberLemmas.{nothing_agrees}
use Rattle.canon_tests.proofs.tests.answers_are_remembered.Goals as goal

pub canon-first-requires-clause-agrees : goal.canon-first-requires-clause-agrees
canon-first-requires-clause-agrees g c = nothing_agrees _ _ (ap (λ (w : Walking). w.remembered) c.in_ok-walker.ensures)

-- how many calls find memory is no part of what is told
pub canon-second-requires-clause-agrees : goal.canon-second-requires-clause-agrees
canon-second-requires-clause-agrees g c = rw c.set_calls.ensures (subst (Agrees c.canon-first.new.self) (sym c.canon-first.ensures.kernel.same) c.canon-first.ensures.walker.agrees)
