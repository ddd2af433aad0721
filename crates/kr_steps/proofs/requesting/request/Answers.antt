use Rattle.kr_perform.proofs.kr_ops.OpeningLemmas.{not-living}
use Rattle.kr_perform.specs.law_allowed.Calls.{HasTextPaths, IsGivable}
use Rattle.kr_steps.proofs.ComputingLemmas.{are-given, ok-first, ok-second, requested-now, requested-runs}
use Rattle.kr_steps.proofs.requesting.request.Goals as goal

pub unreachable-requires : goal.unreachable-requires
unreachable-requires g c = not-living c.args.state.now c.args.pid (c.index_of.ensures.none c.in_default.is) c.requires.lives

pub returns-clause-requested : goal.returns-clause-requested
returns-clause-requested g c =
    let s = c.args.state.now in
    let p = c.index_mut-process.result.now in
    requested-now s c.args.pid c.in-Some.k p c.requires.sound c.in-Some.ensures.some c.index_mut-process.ensures.value c.decode.new.mem c.decode.result c.decode.ensures.decoded

pub returns-clause-given : goal.returns-clause-given
returns-clause-given g c =
    let p = c.index_mut-process.result.now in
    ok-first c.decode.result IsGivable HasTextPaths (are-given p.regs p.mem c.decode.new.mem c.decode.result c.decode.ensures.decoded c.can-can.ensures.bytes)

pub returns-clause-paths : goal.returns-clause-paths
returns-clause-paths g c =
    let p = c.index_mut-process.result.now in
    ok-second c.decode.result IsGivable HasTextPaths (are-given p.regs p.mem c.decode.new.mem c.decode.result c.decode.ensures.decoded c.can-can.ensures.bytes)

pub returns-clause-runs : goal.returns-clause-runs
returns-clause-runs g c =
    let s = c.args.state.now in
    let p = c.index_mut-process.result.now in
    requested-runs s c.args.pid c.in-Some.k p c.requires.sound c.in-Some.ensures.some c.index_mut-process.ensures.value c.decode.new.mem c.decode.result c.decode.ensures.decoded
