use Rattle.pt_results.proofs.pt_canon.RememberLemmas.{paused_agrees}
use Rattle.canon_tests.proofs.walking.Bench.edit.Goals as goal

pub rewrite-requires-clause-agrees : goal.rewrite-requires-clause-agrees
rewrite-requires-clause-agrees c = paused_agrees _ _ c.args.self.now.paused
