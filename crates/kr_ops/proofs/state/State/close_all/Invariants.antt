use Rattle.std.proofs.Common.{◌≡◌}
use Rattle.law_lawful.specs.kr_model.Applied.{close_below}
use Rattle.kr_ops.specs.Meaning.{meaning}
use Rattle.kr_ops.specs.Sound.{IsServed}
use Rattle.kr_ops.proofs.state.State.close_all.Given as goal

abbrev pub invariant-loop-fd : goal.invariant-loop-fd
invariant-loop-fd g l = record {
  closed : meaning l.self ≡ close_below l.pid l.fd (meaning l.initial.self);
  served : IsServed l.self;
}
