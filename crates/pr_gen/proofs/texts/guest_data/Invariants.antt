use Rattle.std.proofs.Common.{◌≡◌, ◌*◌, ◌≤◌, length}
use Rattle.pr_gen.specs.Draws.{after}
use Rattle.pr_gen.specs.Guest.{rounds}
use Rattle.pr_gen.proofs.texts.guest_data.Given as goal

abbrev pub invariant-loop-k : goal.invariant-loop-k
invariant-loop-k l = (l.out.items ≡ rounds l.k l.fn.draws.state) × (l.draws.state ≡ after (2 * l.k) l.fn.draws.state) × (length l.out.items ≤ 400 * l.k)
