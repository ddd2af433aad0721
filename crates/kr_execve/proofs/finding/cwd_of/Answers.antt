use Rattle.std.proofs.Common.{ap}
use Rattle.std.specs.Option.{option_map}
use Rattle.kr_perform.proofs.kr_ops.OpeningLemmas.{found, not-living}
use Rattle.kr_execve.proofs.finding.cwd_of.Goals as goal

pub unreachable-requires : goal.unreachable-requires
unreachable-requires g c = not-living c.args.state.now c.args.pid (c.index_of.ensures.none c.in-None.is) c.requires.lives

pub returns : goal.returns
returns g c = ap (option_map (λ p. p.cwd)) (found c.args.state.now c.args.pid c.in-Some.k c.index.result.now c.requires.sound c.in-Some.ensures.some c.index.ensures)
