use Rattle.std.proofs.Common.{Ok, sym, ap, subst, ◌∙◌}
use Rattle.kr_view.specs.Leads.{numbered}
use Rattle.kr_view.specs.Reach.{reach_after}
use Rattle.kr_view.specs.Walk.{surroundings}
use Rattle.kr_walk.specs.Steps.{trail_of, HasOutcome}
use Rattle.kr_walk.specs.declared.walk.Step.{Step}
use Rattle.kr_walk.specs.declared.walk.Step.TheVariants.{Goes, Ends}
use Rattle.kr_view.specs.Walk.{place_walk}
use Rattle.kr_view.proofs.ReachLemmas.{covers_refl, covers_trans}
use Rattle.kr_walk.proofs.ResolveLemmas.{want_at_start, error_answer, error_reach}
use Rattle.kr_walk.proofs.walk.resolve.Goals as goal

pub returns-in_err-walk-clause-reach : goal.returns-in_err-walk-clause-reach
returns-in_err-walk-clause-reach g c =
    let around = surroundings g.P.Places.number (g.P.Places.mounts c.args.places.now) c.args.tree.now c.args.user (g.Q.Procs.finds c.args.procs.now c.args.caller) (g.Q.Procs.leads c.args.procs.now c.args.caller) in
    let whole = place_walk around c.args.mode (numbered g.P.Places.number c.args.base) c.args.path.now in
    want_at_start g.P.Places.number around c.args.mode whole c.args.reach.now _ c.from_residual.ensures.0 c.from_residual.ensures.1

pub steps-init : goal.steps-init
steps-init g c =
    let around = surroundings g.P.Places.number (g.P.Places.mounts c.args.places.now) c.args.tree.now c.args.user (g.Q.Procs.finds c.args.procs.now c.args.caller) (g.Q.Procs.leads c.args.procs.now c.args.caller) in
    let whole = place_walk around c.args.mode (numbered g.P.Places.number c.args.base) c.args.path.now in
    let at = c.in_ok-walk.ensures.trail c.args.mode in
    record { ends = ap (λ t. t.answer) at; reaches = ap (λ t. reach_after around c.args.mode t c.args.reach.now) at; covers = covers_refl c.args.reach.now; named = c.in_ok-walk.ensures.named }

pub step-requires : goal.step-requires
step-requires g c = record { named = c.steps.invariant.named }

pub returns-in_err-on-clause-answer : goal.returns-in_err-on-clause-answer
returns-in_err-on-clause-answer g c =
    let around = surroundings g.P.Places.number (g.P.Places.mounts c.args.places.now) c.args.tree.now c.args.user (g.Q.Procs.finds c.args.procs.now c.args.caller) (g.Q.Procs.leads c.args.procs.now c.args.caller) in
    let whole = place_walk around c.args.mode (numbered g.P.Places.number c.args.base) c.args.path.now in
    let left = trail_of g.P.Places.number around c.args.mode c.steps.walk in
    error_answer g.P.Places.number around c.args.mode whole c.args.reach.now left.answer (reach_after around c.args.mode left c.steps.reach) c.steps.reach c.step.new.reach _ _ c.in_err-on.ensures.outcome c.steps.invariant.ends c.from_residual-in_err-on.ensures.0 c.from_residual-in_err-on.ensures.1

pub returns-in_err-on-clause-reach : goal.returns-in_err-on-clause-reach
returns-in_err-on-clause-reach g c =
    let around = surroundings g.P.Places.number (g.P.Places.mounts c.args.places.now) c.args.tree.now c.args.user (g.Q.Procs.finds c.args.procs.now c.args.caller) (g.Q.Procs.leads c.args.procs.now c.args.caller) in
    let whole = place_walk around c.args.mode (numbered g.P.Places.number c.args.base) c.args.path.now in
    let left = trail_of g.P.Places.number around c.args.mode c.steps.walk in
    error_reach g.P.Places.number around c.args.mode whole c.args.reach.now left.answer (reach_after around c.args.mode left c.steps.reach) c.steps.reach c.step.new.reach _ _ c.in_err-on.ensures.outcome c.steps.invariant.reaches c.steps.invariant.covers c.from_residual-in_err-on.ensures.0 c.from_residual-in_err-on.ensures.1

pub steps-preserved : goal.steps-preserved
steps-preserved g c =
    let around = surroundings g.P.Places.number (g.P.Places.mounts c.args.places.now) c.args.tree.now c.args.user (g.Q.Procs.finds c.args.procs.now c.args.caller) (g.Q.Procs.leads c.args.procs.now c.args.caller) in
    let left = trail_of g.P.Places.number around c.args.mode c.steps.walk in
    let P : Step g.row.P-Mount.Denot → Type 0 = λ s. HasOutcome g.P.Places.number around c.args.mode left.answer (reach_after around c.args.mode left c.steps.reach) c.steps.reach c.step.new.reach (Ok s) in
    let out : P (Goes c.in-Goes.on) = subst P c.in-Goes.is c.in_ok-on.ensures.outcome in
    record {
      ends = out.ends ∙ c.steps.invariant.ends;
      reaches = out.reaches ∙ c.steps.invariant.reaches;
      covers = covers_trans c.step.new.reach c.steps.reach c.args.reach.now out.covers c.steps.invariant.covers;
      named = out.named;
    }

pub returns-in-Ends-clause-answer : goal.returns-in-Ends-clause-answer
returns-in-Ends-clause-answer g c =
    let around = surroundings g.P.Places.number (g.P.Places.mounts c.args.places.now) c.args.tree.now c.args.user (g.Q.Procs.finds c.args.procs.now c.args.caller) (g.Q.Procs.leads c.args.procs.now c.args.caller) in
    let left = trail_of g.P.Places.number around c.args.mode c.steps.walk in
    let P : Step g.row.P-Mount.Denot → Type 0 = λ s. HasOutcome g.P.Places.number around c.args.mode left.answer (reach_after around c.args.mode left c.steps.reach) c.steps.reach c.step.new.reach (Ok s) in
    let out : P (Ends c.in-Ends.target) = subst P c.in-Ends.is c.in_ok-on.ensures.outcome in (out.0.0, sym c.steps.invariant.ends ∙ out.0.1, out.0.2)

pub returns-in-Ends-clause-reach : goal.returns-in-Ends-clause-reach
returns-in-Ends-clause-reach g c =
    let around = surroundings g.P.Places.number (g.P.Places.mounts c.args.places.now) c.args.tree.now c.args.user (g.Q.Procs.finds c.args.procs.now c.args.caller) (g.Q.Procs.leads c.args.procs.now c.args.caller) in
    let left = trail_of g.P.Places.number around c.args.mode c.steps.walk in
    let P : Step g.row.P-Mount.Denot → Type 0 = λ s. HasOutcome g.P.Places.number around c.args.mode left.answer (reach_after around c.args.mode left c.steps.reach) c.steps.reach c.step.new.reach (Ok s) in
    let out : P (Ends c.in-Ends.target) = subst P c.in-Ends.is c.in_ok-on.ensures.outcome in out.1 ∙ c.steps.invariant.reaches
