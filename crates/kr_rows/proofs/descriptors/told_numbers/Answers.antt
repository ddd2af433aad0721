use Rattle.std.proofs.Common.{sym, arith}
use Rattle.kr_seen.specs.kr_ops.Meaning.{meaning}
use Rattle.kr_rows.proofs.PipeLemmas.{lowest-below}
use Rattle.kr_rows.proofs.descriptors.told_numbers.Goals as goal

pub overflow_add-first : goal.overflow_add-first
overflow_add-first g c = let below = lowest-below (meaning c.args.state.now) c.args.pid 0 c.in_ok-first.first (sym c.in_ok-first.ensures) in omega arith
