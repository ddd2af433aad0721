use Rattle.std.proofs.Common.{◌≡◌}
use Rattle.kr_ops.specs.Remembering.{followed}
use Rattle.kr_ops.proofs.NameLemmas.{first_done}
use Rattle.kr_ops.proofs.state.State.follow_all.Given as goal

abbrev pub invariant-loop-k : goal.invariant-loop-k
invariant-loop-k g l = record {
  others : l.self ≡ record l.initial.self { living = l.self.living };
  done : l.self.living.items ≡ first_done (followed l.dir l.name l.to l.new) l.k l.initial.self.living.items;
}
