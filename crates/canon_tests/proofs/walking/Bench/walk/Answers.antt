use Rattle.pt_results.proofs.pt_canon.RememberLemmas.{paused_agrees}
use Rattle.canon_tests.proofs.walking.Bench.walk.Goals as goal

pub canon-requires-clause-agrees : goal.canon-requires-clause-agrees
canon-requires-clause-agrees c = paused_agrees _ _ c.args.self.now.paused
