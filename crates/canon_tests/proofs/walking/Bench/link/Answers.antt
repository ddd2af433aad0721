use Rattle.pt_results.proofs.pt_canon.RememberLemmas.{paused_agrees}
use Rattle.canon_tests.proofs.walking.Bench.link.Goals as goal

pub link_answer-requires : goal.link_answer-requires
link_answer-requires c = record { agrees = paused_agrees _ _ c.args.self.now.paused }
