use Rattle.std.proofs.Common.{◌≡◌}
use Rattle.kr_ops.specs.Ending.{adopted}
use Rattle.kr_ops.proofs.NameLemmas.{first_done}
use Rattle.kr_ops.proofs.state.State.adopt_all.Given as goal

abbrev pub invariant-loop-k : goal.invariant-loop-k
invariant-loop-k g l = record {
  others : l.self ≡ record l.initial.self { living = l.self.living };
  done : l.self.living.items ≡ first_done (adopted l.pid) l.k l.initial.self.living.items;
}
