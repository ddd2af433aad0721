use Rattle.std.proofs.Common.{◌≡◌}
use Rattle.kr_ops.specs.Remembering.{forgotten}
use Rattle.kr_ops.proofs.NameLemmas.{first_done}
use Rattle.kr_ops.proofs.state.State.forget_all.Given as goal

abbrev pub invariant-loop-k : goal.invariant-loop-k
invariant-loop-k g l = record {
  others : l.self ≡ record l.initial.self { living = l.self.living };
  done : l.self.living.items ≡ first_done (forgotten l.dir l.name) l.k l.initial.self.living.items;
}
