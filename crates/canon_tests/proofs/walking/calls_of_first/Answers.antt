use Rattle.std.proofs.Common.{ap}
use Rattle.pt_results.specs.pt_canon.Remembering.{Walking}
use Rattle.pt_results.proofs.pt_canon.RememberLemmas.{nothing_agrees}
use Rattle.canon_tests.proofs.walking.calls_of_first.Goals as goal

pub canon-answer-requires-clause-agrees : goal.canon-answer-requires-clause-agrees
canon-answer-requires-clause-agrees c = nothing_agrees _ _ (ap (λ (w : Walking). w.remembered) c.in_ok-walker.ensures)
