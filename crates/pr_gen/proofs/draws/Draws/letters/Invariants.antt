use Rattle.std.proofs.Common.{◌≡◌}
use Rattle.pr_gen.specs.Draws.{after, letters}
use Rattle.pr_gen.proofs.draws.Draws.letters.Given as goal

abbrev pub invariant-loop-k : goal.invariant-loop-k
invariant-loop-k l = (l.bytes.items ≡ letters l._k l.fn.self.state) × (l.self.state ≡ after l._k l.fn.self.state)
