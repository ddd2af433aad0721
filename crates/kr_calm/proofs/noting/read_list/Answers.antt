use Rattle.std.proofs.Common.{◌≡◌, ◌<◌, ◌≤◌, ℕ, true, false, arith}
use Rattle.std.specs.Prelude.{nat_lt}
use Rattle.std.proofs.lemmas.Bool.Decides.{nat_tests}
use Rattle.kr_calm.proofs.NotedLemmas.{list-read-so, list-too-long}
use Rattle.kr_calm.proofs.noting.read_list.Goals as goal

too-many : (n : ℕ) → 1024 < n → nat_lt 1024 n ≡ true
too-many n l = grind (arith, nat_tests)

few-enough : (n : ℕ) → n ≤ 1024 → nat_lt 1024 n ≡ false
few-enough n l = grind (arith, nat_tests)

pub returns-then-count-le-MOST_PIECES : goal.returns-then-count-le-MOST_PIECES
returns-then-count-le-MOST_PIECES g c = list-read-so c.args.pid c.args.state.now c.requires.sound c.requires.lives c.read_front.new.state c.args.list c.args.count (few-enough c.args.count (omega arith)) c.read_front.ensures

pub returns-else-count-le-MOST_PIECES : goal.returns-else-count-le-MOST_PIECES
returns-else-count-le-MOST_PIECES g c = list-too-long c.args.pid c.args.state.now c.requires.sound c.requires.lives c.args.list c.args.count (too-many c.args.count (omega arith))
