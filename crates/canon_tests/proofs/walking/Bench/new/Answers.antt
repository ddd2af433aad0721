use Rattle.std.proofs.Common.{◌≡◌, ◌+◌, ap, arith}
use Rattle.pt_results.specs.pt_canon.Remembering.{Walking}
use Rattle.canon_tests.proofs.walking.Bench.new.Goals as goal

pub invariant_of-bench : goal.invariant_of-bench
invariant_of-bench c = record { paused = λ none. absurd (let one : c.pause.new.self.pauses ≡ c.in_ok-walker.walker.pauses + 1 = ap (λ (w : Walking). w.pauses) c.pause.ensures in omega arith) }
