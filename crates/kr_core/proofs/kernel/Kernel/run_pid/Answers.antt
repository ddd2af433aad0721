use Rattle.kr_turns.specs.kr_stops.Watching.{watching}
use Rattle.kr_core.proofs.SteppingLemmas.{run-moves}
use Rattle.kr_core.proofs.kernel.Kernel.run_pid.Goals as goal

pub returns-clause-moves : goal.returns-clause-moves
returns-clause-moves g c = run-moves g.P.Places.number (watching g.S.Stops.enters g.S.Stops.exits g.S.Stops.bears g.S.Stops.forgets) _ c.args.fuel c.args.pid _ _ c.in_ok-told.told c.requires.phase c.in_ok-told.ensures.runs

pub returns-clause-counted : goal.returns-clause-counted
returns-clause-counted g c = c.in_ok-told.ensures.counted
