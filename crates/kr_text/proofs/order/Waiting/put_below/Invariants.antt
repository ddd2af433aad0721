use Rattle.std.proofs.Common.{◌≡◌, ◌++◌, length, map}
use Rattle.kr_text.specs.Canonical.{below}
use Rattle.kr_text.specs.Order.{AreNamed}
use Rattle.kr_text.proofs.order.Waiting.put_below.Given as goal

abbrev pub invariant-loop-name : goal.invariant-loop-name
invariant-loop-name l = record {
  waiting : map (below l.path) l.names ++ l.self ≡ map (below l.path) l.initial.names ++ l.initial.self;
  well_formed : AreNamed l.names;
}

abbrev pub decreases-loop-name : goal.decreases-loop-name
decreases-loop-name l = length l.names
