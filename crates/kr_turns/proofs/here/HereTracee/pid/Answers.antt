use Rattle.std.proofs.Common.{subst}
use Rattle.kr_execve.specs.kr_tree.Lawful.{IsSound}
use Rattle.kr_turns.specs.Held.{Held, stopped_of}
use Rattle.kr_steps.specs.kr_stops.Stopped.{IsThere}
use Rattle.kr_turns.proofs.HereLemmas.{there-in}
use Rattle.kr_turns.proofs.here.HereTracee.pid.Goals as goal

pub returns-clause-lives : goal.returns-clause-lives
returns-clause-lives g c =
    let number = g.P.Places.number in
    subst (λ (h : Held _ _ _). IsThere (stopped_of number h)) c.self.view_is
    (there-in number (g.P.Places.mounts c.self.inside.places.now) c.self.inside.calls c.self.inside.pid c.self.inside.handed c.self.inside.state.now c.self.invariant)

pub returns-clause-sound : goal.returns-clause-sound
returns-clause-sound g c =
    subst (λ (h : Held _ _ _). IsSound (stopped_of g.P.Places.number h).state.tree) c.self.view_is c.self.invariant.runs.lasts.lawful.tree.sound
