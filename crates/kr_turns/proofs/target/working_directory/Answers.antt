use Rattle.std.proofs.Common.{sym, ap}
use Rattle.kr_steps.specs.kr_model.Known.{Caller}
use Rattle.kr_hostview.proofs.kr_ops.OpeningLemmas.{not-living}
use Rattle.kr_turns.proofs.TargetLemmas.{known-caller}
use Rattle.kr_turns.proofs.target.working_directory.Goals as goal

pub unreachable-requires : goal.unreachable-requires
unreachable-requires g c = not-living c.args.state.now c.args.pid (c.index_of.ensures.none c.in-None.is) c.requires.lives

pub returns : goal.returns
returns g c = sym (ap (λ (x : Caller). x.cwd) (known-caller c.args.state.now c.args.pid c.in-Some.k c.index.result.now c.requires.sound c.in-Some.ensures.some c.index.ensures))
