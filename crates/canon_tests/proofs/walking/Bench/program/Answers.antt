use Rattle.pt_results.proofs.pt_canon.RememberLemmas.{paused_agrees}
use Rattle.canon_tests.proofs.walking.Bench.program.Goals as goal

pub expand-requires : goal.expand-requires
expand-requires c = record { agrees = paused_agrees _ _ c.args.self.now.paused }
