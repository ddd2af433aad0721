use Rattle.std.proofs.Common.{List, refl, subst, sym}
use Rattle.kr_turns.proofs.ApartLemmas.{leaves-same}
use Rattle.kr_turns.proofs.MakingLemmas.{left-free}
use Rattle.kr_turns.specs.kr_ops.Meaning.{meaning}
use Rattle.kr_turns.specs.kr_seen.Numbered.{state_numbered}
use Rattle.kr_core.specs.Kernel.{Kernel}
use Rattle.kr_core.specs.Standing.{AreStanding}
use Rattle.kr_core.specs.Stepping.{RunsAgain}
use Rattle.kr_core.specs.declared.paused.Paused.{Paused}
use Rattle.kr_core.proofs.StandingLemmas.{stand-run}
use Rattle.kr_core.proofs.kernel.Kernel.run_again.Goals as goal

pub invariant_of-self : goal.invariant_of-self
invariant_of-self g c =
    let inside = c.self.inside in
    let s = state_numbered g.P.Places.number (meaning inside.state) in
    record {
      named = c.self.invariant.named;
      few = c.self.invariant.few;
      counted = c.self.invariant.counted;
      runs = c.self.invariant.runs;
      agreement = c.self.invariant.agreement;
      standing = λ whole.
          subst (λ (l : List Paused). AreStanding g.S.Stops.is_free inside.stops s l) (sym c.let_run.ensures)
          (stand-run g.S.Stops.is_free inside.stops inside.stops s s c.args.pid (leaves-same c.args.pid s s refl) (left-free g.S.Stops.is_free c.args.pid inside.stops) inside.paused.items (c.self.invariant.standing whole));
    }

pub returns : goal.returns
returns g c =
    let inside = c.self.inside in
    let new : Kernel g.row.P.Denot g.row.S.Denot g.row.P-Mount.Denot g.row.MARKED = record {
      places = inside.places;
      stops = inside.stops;
      state = inside.state;
      status = inside.status;
      broken = inside.broken;
      turns = inside.turns;
      calls = inside.calls;
      shape_changes = inside.shape_changes;
      byte_changes = inside.byte_changes;
      met = inside.met;
      paused = c.let_run.new.paused.items;
      whole = inside.whole;
    } in
    subst (λ (k : Kernel g.row.P.Denot g.row.S.Denot g.row.P-Mount.Denot g.row.MARKED). RunsAgain g.P.Places.number c.args.pid k new) c.self.view_is
    (record { stays = refl; paused = c.let_run.ensures; calls = refl; met = refl; places = refl; turns = refl; whole = refl })
