use Rattle.std.proofs.Common.{◌++◌, List, sym, ap, subst, ◌∙◌}
use Rattle.kr_view.specs.kr_tree.pr_base.Paths.{Component, components_of}
use Rattle.kr_view.specs.kr_tree.pr_base.WalkFrame.{begins_at, onward}
use Rattle.kr_walk.specs.declared.walk.Walk.{Walk}
use Rattle.kr_view.specs.Component.{SeenPlace, seen_link}
use Rattle.kr_view.specs.Leads.{numbered}
use Rattle.kr_walk.specs.Rests.{components_left}
use Rattle.kr_view.specs.Walk.{looking}
use Rattle.kr_walk.specs.Stacks.{stack_of}
use Rattle.kr_walk.specs.Sights.{surroundings_of, sight_seen}
use Rattle.kr_view.specs.Reach.{reach_after}
use Rattle.kr_walk.specs.Steps.{middle_trail, HasOutcome}
use Rattle.kr_walk.proofs.OutcomeLemmas.{want_behind, at_follow_error}
use Rattle.kr_walk.proofs.surroundings.Surroundings.in_middle.Goals as goal

pub returns-in_err-position-in-Leads-clause-outcome : goal.returns-in_err-position-in-Leads-clause-outcome
returns-in_err-position-in-Leads-clause-outcome g c = λ mode.
    let around = surroundings_of g.P.Places.number g.P.Places.mounts g.Q.Procs.finds g.Q.Procs.leads c.args.self.now in
    let seen = sight_seen g.P.Places.number around c.args.sight.now in
    let trail = middle_trail around mode c.args.walk.left (numbered g.P.Places.number c.args.walk.position.place) (components_left c.args.taken.rest ++ stack_of c.args.walk.rests) c.args.walk.slash seen in
    want_behind g.P.Places.number around mode trail.answer trail c.args.reach.now _ c.from_residual.ensures.0 c.from_residual.ensures.1

pub returns-in_err-push-in-Leads-clause-outcome : goal.returns-in_err-push-in-Leads-clause-outcome
returns-in_err-push-in-Leads-clause-outcome g c = λ mode.
    let around = surroundings_of g.P.Places.number g.P.Places.mounts g.Q.Procs.finds g.Q.Procs.leads c.args.self.now in
    let seen = sight_seen g.P.Places.number around c.args.sight.now in
    let trail = middle_trail around mode c.args.walk.left (numbered g.P.Places.number c.args.walk.position.place) (components_left c.args.taken.rest ++ stack_of c.args.walk.rests) c.args.walk.slash seen in
    want_behind g.P.Places.number around mode trail.answer trail c.args.reach.now _ c.from_residual-in_err-push-in-Leads.ensures.0 c.from_residual-in_err-push-in-Leads.ensures.1

pub returns-in_err-push-in-Links-clause-outcome : goal.returns-in_err-push-in-Links-clause-outcome
returns-in_err-push-in-Links-clause-outcome g c = λ mode.
    let around = surroundings_of g.P.Places.number g.P.Places.mounts g.Q.Procs.finds g.Q.Procs.leads c.args.self.now in
    let seen = sight_seen g.P.Places.number around c.args.sight.now in
    let trail = middle_trail around mode c.args.walk.left (numbered g.P.Places.number c.args.walk.position.place) (components_left c.args.taken.rest ++ stack_of c.args.walk.rests) c.args.walk.slash seen in
    want_behind g.P.Places.number around mode trail.answer trail c.args.reach.now _ c.from_residual-in_err-push-in-Links.ensures.0 c.from_residual-in_err-push-in-Links.ensures.1

pub returns-in_err-push-in-Jumps-clause-outcome : goal.returns-in_err-push-in-Jumps-clause-outcome
returns-in_err-push-in-Jumps-clause-outcome g c = λ mode.
    let around = surroundings_of g.P.Places.number g.P.Places.mounts g.Q.Procs.finds g.Q.Procs.leads c.args.self.now in
    let seen = sight_seen g.P.Places.number around c.args.sight.now in
    let trail = middle_trail around mode c.args.walk.left (numbered g.P.Places.number c.args.walk.position.place) (components_left c.args.taken.rest ++ stack_of c.args.walk.rests) c.args.walk.slash seen in
    want_behind g.P.Places.number around mode trail.answer trail c.args.reach.now _ c.from_residual-in_err-push-in-Jumps.ensures.0 c.from_residual-in_err-push-in-Jumps.ensures.1

pub returns-in_err-follow-in-Links-clause-outcome : goal.returns-in_err-follow-in-Links-clause-outcome
returns-in_err-follow-in-Links-clause-outcome g c = λ mode.
    let around = surroundings_of g.P.Places.number g.P.Places.mounts g.Q.Procs.finds g.Q.Procs.leads c.args.self.now in
    let s = numbered g.P.Places.number c.args.walk.position.place in
    let seen = sight_seen g.P.Places.number around c.args.sight.now in
    let trail = middle_trail around mode c.args.walk.left s (components_left c.args.taken.rest ++ stack_of c.args.walk.rests) c.args.walk.slash seen in
    let text = c.in-Links.text.now in
    let is = ap (sight_seen g.P.Places.number around) c.in-Links.is in
    let pushed = c.in_ok-push-in-Links.ensures ∙ ap (λ rest. components_left rest ++ stack_of c.args.walk.rests) c.into_rest-in-Links.ensures in
    let at =
    ap (middle_trail around mode c.args.walk.left s (components_left c.args.taken.rest ++ stack_of c.args.walk.rests) c.args.walk.slash) is
    ∙ ap (λ cs. onward (looking around) mode c.args.walk.left (begins_at (looking around) s text) (components_of text ++ cs) c.args.walk.slash) (sym pushed) in
    let walk : Walk g.row.P-Mount.Denot = record { position = c.args.walk.position; rests = c.push-in-Links.new.self; left = c.args.walk.left; slash = c.args.walk.slash } in
    at_follow_error g.P.Places.number around mode walk text c.args.walk.slash trail c.args.reach.now _ _ c.from_residual-in_err-follow-in-Links.ensures.0 c.from_residual-in_err-follow-in-Links.ensures.1 c.in_err-follow-in-Links.ensures at

pub returns-in_ok-push-in-Jumps-clause-outcome : goal.returns-in_ok-push-in-Jumps-clause-outcome
returns-in_ok-push-in-Jumps-clause-outcome g c = λ mode.
    let around = surroundings_of g.P.Places.number g.P.Places.mounts g.Q.Procs.finds g.Q.Procs.leads c.args.self.now in
    let s = numbered g.P.Places.number c.args.walk.position.place in
    let link = numbered g.P.Places.number c.in-Jumps.field-0.place in
    let is = ap (sight_seen g.P.Places.number around) c.in-Jumps.is in
    let pushed = c.in_ok-push-in-Jumps.ensures ∙ ap (λ rest. components_left rest ++ stack_of c.args.walk.rests) c.into_rest-in-Jumps.ensures in
    let P : List Component → SeenPlace → Type 0 = λ cs seen. HasOutcome g.P.Places.number around mode (middle_trail around mode c.args.walk.left s cs c.args.walk.slash seen).answer
    (reach_after around mode (middle_trail around mode c.args.walk.left s cs c.args.walk.slash seen) c.args.reach.now) c.args.reach.now c.jump.new.reach c.jump.result in
    let at_link : P (stack_of c.push-in-Jumps.new.self) (seen_link around.space link (around.leads c.in-Jumps.at)) = c.jump.ensures.outcome mode link in
    subst (λ cs. P cs (sight_seen g.P.Places.number around c.args.sight.now)) pushed (subst (P (stack_of c.push-in-Jumps.new.self)) (sym is) at_link)
