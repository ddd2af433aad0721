use Rattle.std.proofs.Common.{◌≡◌}
use Rattle.kr_view.specs.Leads.{numbered}
use Rattle.kr_walk.specs.Positions.{IsNamed}
use Rattle.kr_view.specs.Reach.{Covers, reach_after}
use Rattle.kr_view.specs.Walk.{surroundings}
use Rattle.kr_walk.specs.Steps.{trail_of, work}
use Rattle.kr_view.specs.Walk.{place_walk}
use Rattle.kr_walk.proofs.walk.resolve.Given as goal

abbrev pub invariant-steps : goal.invariant-steps
invariant-steps g l =
    let around = surroundings g.P.Places.number (g.P.Places.mounts l.places) l.tree l.fn.user (g.Q.Procs.finds l.procs l.caller) (g.Q.Procs.leads l.procs l.caller) in
    let whole = place_walk around l.mode (numbered g.P.Places.number l.fn.base) l.path in
    record {
      ends : (trail_of g.P.Places.number around l.mode l.walk).answer ≡ whole.answer;
      reaches : reach_after around l.mode (trail_of g.P.Places.number around l.mode l.walk) l.reach ≡ reach_after around l.mode whole l.fn.reach;
      covers : Covers l.reach l.fn.reach;
      named : IsNamed l.tree l.walk.position.place.host l.walk.position.name;
    }

abbrev pub decreases-steps : goal.decreases-steps
decreases-steps g l = work l.walk
