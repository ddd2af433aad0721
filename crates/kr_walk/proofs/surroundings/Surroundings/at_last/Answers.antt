use Rattle.std.proofs.Common.{◌≡◌, ◌++◌, Some, None, sym, ap, subst, ◌∙◌}
use Rattle.kr_view.specs.kr_tree.pr_base.Paths.{component_of, components_of}
use Rattle.std.specs.Option.{option_map}
use Rattle.kr_view.specs.kr_tree.pr_base.WalkFrame.{begins_at, onward, target_at, name_of}
use Rattle.kr_view.specs.Names.{free_name}
use Rattle.kr_view.specs.Reach.{greater, text_length, reach_after}
use Rattle.kr_view.specs.Component.{SeenPlace}
use Rattle.kr_view.specs.Leads.{numbered}
use Rattle.kr_walk.specs.Components.{component_data}
use Rattle.kr_view.specs.Walk.{looking}
use Rattle.kr_view.specs.Answers.{told, target_numbered}
use Rattle.kr_walk.specs.Stacks.{stack_of, taken_bytes}
use Rattle.kr_walk.specs.Sights.{surroundings_of, sight_seen}
use Rattle.kr_walk.specs.Steps.{last_trail, HasOutcome}
use Rattle.kr_walk.proofs.OutcomeLemmas.{at_follow_error, at_follow}
use Rattle.kr_walk.proofs.LastLemmas.{last_links, last_link_found, last_jump_found, last_missing, last_leads, ends_at, ends_free}
use Rattle.kr_walk.proofs.surroundings.Surroundings.at_last.Goals as goal

pub returns-then-not-is_followed-clause-outcome : goal.returns-then-not-is_followed-clause-outcome
returns-then-not-is_followed-clause-outcome g c =
    let around = surroundings_of g.P.Places.number g.P.Places.mounts g.Q.Procs.finds g.Q.Procs.leads c.args.self.now in
    let s = numbered g.P.Places.number c.args.walk.position.place in
    let component = component_of (taken_bytes c.args.taken.now) in
    let seen = sight_seen g.P.Places.number around c.args.sight.now in
    let trail = last_trail around c.args.mode c.args.walk.left s component c.args.walk.slash seen in
    let is_component : component_data c.component_of-component.result ≡ component = c.component_of-component.ensures ∙ ap component_of c.bytes.ensures in
    let same : told (target_at s component c.args.walk.slash (Some (numbered g.P.Places.number c.in-Links.spot.place))) ≡ target_numbered g.P.Places.number c.in_ok-target-in-Links.field-0 =
    ap (λ d. told (target_at (numbered g.P.Places.number d) component c.args.walk.slash (Some (numbered g.P.Places.number c.in-Links.spot.place)))) (sym c.place-dir.ensures)
    ∙ ap (λ p. told (target_at (numbered g.P.Places.number c.place-dir.result) p c.args.walk.slash (Some (numbered g.P.Places.number c.in-Links.spot.place)))) (sym is_component) ∙ c.in_ok-target-in-Links.ensures in
    let at = ap (last_trail around c.args.mode c.args.walk.left s component c.args.walk.slash) (ap (sight_seen g.P.Places.number around) c.in-Links.is)
    ∙ last_link_found around c.args.mode c.args.walk.left s component c.args.walk.slash (numbered g.P.Places.number c.in-Links.spot.place) c.in-Links.text.now (sym c.is_followed.ensures ∙ c.if-not-is_followed.true) in
    ends_at g.P.Places.number around c.args.mode trail s component c.args.walk.slash c.args.reach.now c.in_ok-target-in-Links.field-0 (numbered g.P.Places.number c.in-Links.spot.place) at same

pub returns-then-not-is_followed-2-clause-outcome : goal.returns-then-not-is_followed-2-clause-outcome
returns-then-not-is_followed-2-clause-outcome g c =
    let around = surroundings_of g.P.Places.number g.P.Places.mounts g.Q.Procs.finds g.Q.Procs.leads c.args.self.now in
    let s = numbered g.P.Places.number c.args.walk.position.place in
    let component = component_of (taken_bytes c.args.taken.now) in
    let seen = sight_seen g.P.Places.number around c.args.sight.now in
    let trail = last_trail around c.args.mode c.args.walk.left s component c.args.walk.slash seen in
    let is_component : component_data c.component_of-component.result ≡ component = c.component_of-component.ensures ∙ ap component_of c.bytes.ensures in
    let same : told (target_at s component c.args.walk.slash (Some (numbered g.P.Places.number c.in-Jumps.spot.place))) ≡ target_numbered g.P.Places.number c.in_ok-target-in-Jumps.field-0 =
    ap (λ d. told (target_at (numbered g.P.Places.number d) component c.args.walk.slash (Some (numbered g.P.Places.number c.in-Jumps.spot.place)))) (sym c.place-dir.ensures)
    ∙ ap (λ p. told (target_at (numbered g.P.Places.number c.place-dir.result) p c.args.walk.slash (Some (numbered g.P.Places.number c.in-Jumps.spot.place)))) (sym is_component) ∙ c.in_ok-target-in-Jumps.ensures in
    let at = ap (last_trail around c.args.mode c.args.walk.left s component c.args.walk.slash) (ap (sight_seen g.P.Places.number around) c.in-Jumps.is)
    ∙ last_jump_found around c.args.mode c.args.walk.left s component c.args.walk.slash (numbered g.P.Places.number c.in-Jumps.spot.place) (around.leads c.in-Jumps.at) (sym c.is_followed-in-Jumps.ensures ∙ c.if-not-is_followed-2.true) in
    ends_at g.P.Places.number around c.args.mode trail s component c.args.walk.slash c.args.reach.now c.in_ok-target-in-Jumps.field-0 (numbered g.P.Places.number c.in-Jumps.spot.place) at same

pub returns-in_ok-target-in-Leads-clause-outcome : goal.returns-in_ok-target-in-Leads-clause-outcome
returns-in_ok-target-in-Leads-clause-outcome g c =
    let around = surroundings_of g.P.Places.number g.P.Places.mounts g.Q.Procs.finds g.Q.Procs.leads c.args.self.now in
    let s = numbered g.P.Places.number c.args.walk.position.place in
    let component = component_of (taken_bytes c.args.taken.now) in
    let seen = sight_seen g.P.Places.number around c.args.sight.now in
    let trail = last_trail around c.args.mode c.args.walk.left s component c.args.walk.slash seen in
    let is_component : component_data c.component_of-component.result ≡ component = c.component_of-component.ensures ∙ ap component_of c.bytes.ensures in
    let same : told (target_at s component c.args.walk.slash (Some (numbered g.P.Places.number c.in-Leads.spot.place))) ≡ target_numbered g.P.Places.number c.in_ok-target-in-Leads.field-0 =
    ap (λ d. told (target_at (numbered g.P.Places.number d) component c.args.walk.slash (Some (numbered g.P.Places.number c.in-Leads.spot.place)))) (sym c.place-dir.ensures)
    ∙ ap (λ p. told (target_at (numbered g.P.Places.number c.place-dir.result) p c.args.walk.slash (Some (numbered g.P.Places.number c.in-Leads.spot.place)))) (sym is_component) ∙ c.in_ok-target-in-Leads.ensures in
    let at = ap (last_trail around c.args.mode c.args.walk.left s component c.args.walk.slash) (ap (sight_seen g.P.Places.number around) c.in-Leads.is)
    ∙ last_leads around c.args.mode c.args.walk.left s component c.args.walk.slash c.in-Leads.is_dir (numbered g.P.Places.number c.in-Leads.spot.place) (sym c.is_refused.ensures ∙ c.if-is_refused.false) in
    ends_at g.P.Places.number around c.args.mode trail s component c.args.walk.slash c.args.reach.now c.in_ok-target-in-Leads.field-0 (numbered g.P.Places.number c.in-Leads.spot.place) at same

pub returns-in_ok-target-in-Missing-clause-outcome : goal.returns-in_ok-target-in-Missing-clause-outcome
returns-in_ok-target-in-Missing-clause-outcome g c =
    let around = surroundings_of g.P.Places.number g.P.Places.mounts g.Q.Procs.finds g.Q.Procs.leads c.args.self.now in
    let s = numbered g.P.Places.number c.args.walk.position.place in
    let component = component_of (taken_bytes c.args.taken.now) in
    let seen = sight_seen g.P.Places.number around c.args.sight.now in
    let trail = last_trail around c.args.mode c.args.walk.left s component c.args.walk.slash seen in
    let is_component : component_data c.component_of-component.result ≡ component = c.component_of-component.ensures ∙ ap component_of c.bytes.ensures in
    let same : told (target_at s component c.args.walk.slash None) ≡ target_numbered g.P.Places.number c.in_ok-target-in-Missing.target =
    ap (λ d. told (target_at (numbered g.P.Places.number d) component c.args.walk.slash None)) (sym c.place-dir.ensures)
    ∙ ap (λ p. told (target_at (numbered g.P.Places.number c.place-dir.result) p c.args.walk.slash None)) (sym is_component) ∙ c.in_ok-target-in-Missing.ensures in
    let at = ap (last_trail around c.args.mode c.args.walk.left s component c.args.walk.slash) (ap (sight_seen g.P.Places.number around) c.in-Missing.is)
    ∙ last_missing around c.args.mode c.args.walk.left s component c.args.walk.slash (sym c.may_be_free.ensures ∙ c.if-not-may_be_free.false) in
    ends_free g.P.Places.number around c.args.mode trail s component c.args.walk.slash c.args.reach.now c.in_ok-target-in-Missing.target c.raise.new.self at same
    (c.raise.ensures.longest ∙ ap (λ l. greater l c.args.reach.now.longest) (c.free_length.ensures ∙ ap (λ p. option_map text_length (free_name around.space s.host (name_of p))) is_component)) c.raise.ensures.met_proc

pub returns-in_err-follow-in-Links-clause-outcome : goal.returns-in_err-follow-in-Links-clause-outcome
returns-in_err-follow-in-Links-clause-outcome g c =
    let around = surroundings_of g.P.Places.number g.P.Places.mounts g.Q.Procs.finds g.Q.Procs.leads c.args.self.now in
    let s = numbered g.P.Places.number c.args.walk.position.place in
    let component = component_of (taken_bytes c.args.taken.now) in
    let seen = sight_seen g.P.Places.number around c.args.sight.now in
    let trail = last_trail around c.args.mode c.args.walk.left s component c.args.walk.slash seen in
    let text = c.in-Links.text.now in
    let is = ap (sight_seen g.P.Places.number around) c.in-Links.is in
    let at = ap (last_trail around c.args.mode c.args.walk.left s component c.args.walk.slash) is
    ∙ last_links around c.args.mode c.args.walk.left s component c.args.walk.slash (numbered g.P.Places.number c.in-Links.spot.place) text (stack_of c.args.walk.rests) (sym c.is_followed.ensures ∙ c.if-not-is_followed.false) c.requires.none
    ∙ ap (onward (looking around) c.args.mode c.args.walk.left (begins_at (looking around) s text) (components_of text ++ stack_of c.args.walk.rests)) (sym c.slash_behind-slash.ensures) in
    at_follow_error g.P.Places.number around c.args.mode c.args.walk text c.slash_behind-slash.result trail c.args.reach.now _ _ c.from_residual-in_err-follow-in-Links.ensures.0 c.from_residual-in_err-follow-in-Links.ensures.1 c.in_err-follow-in-Links.ensures at

pub returns-in_ok-follow-in-Links-clause-outcome : goal.returns-in_ok-follow-in-Links-clause-outcome
returns-in_ok-follow-in-Links-clause-outcome g c =
    let around = surroundings_of g.P.Places.number g.P.Places.mounts g.Q.Procs.finds g.Q.Procs.leads c.args.self.now in
    let s = numbered g.P.Places.number c.args.walk.position.place in
    let component = component_of (taken_bytes c.args.taken.now) in
    let seen = sight_seen g.P.Places.number around c.args.sight.now in
    let trail = last_trail around c.args.mode c.args.walk.left s component c.args.walk.slash seen in
    let text = c.in-Links.text.now in
    let is = ap (sight_seen g.P.Places.number around) c.in-Links.is in
    let at = ap (last_trail around c.args.mode c.args.walk.left s component c.args.walk.slash) is
    ∙ last_links around c.args.mode c.args.walk.left s component c.args.walk.slash (numbered g.P.Places.number c.in-Links.spot.place) text (stack_of c.args.walk.rests) (sym c.is_followed.ensures ∙ c.if-not-is_followed.false) c.requires.none
    ∙ ap (onward (looking around) c.args.mode c.args.walk.left (begins_at (looking around) s text) (components_of text ++ stack_of c.args.walk.rests)) (sym c.slash_behind-slash.ensures) in
    at_follow g.P.Places.number around c.args.mode c.args.walk text c.slash_behind-slash.result trail c.args.reach.now _ c.in_ok-follow-in-Links.ensures at

pub returns-else-not-is_followed-2-clause-outcome : goal.returns-else-not-is_followed-2-clause-outcome
returns-else-not-is_followed-2-clause-outcome g c =
    let around = surroundings_of g.P.Places.number g.P.Places.mounts g.Q.Procs.finds g.Q.Procs.leads c.args.self.now in
    let s = numbered g.P.Places.number c.args.walk.position.place in
    let component = component_of (taken_bytes c.args.taken.now) in
    let seen = sight_seen g.P.Places.number around c.args.sight.now in
    let trail = last_trail around c.args.mode c.args.walk.left s component c.args.walk.slash seen in
    let link = numbered g.P.Places.number c.in-Jumps.spot.place in
    let is = ap (sight_seen g.P.Places.number around) c.in-Jumps.is in
    let P : SeenPlace → Type 0 = λ seen. HasOutcome g.P.Places.number around c.args.mode (last_trail around c.args.mode c.args.walk.left s component c.args.walk.slash seen).answer
    (reach_after around c.args.mode (last_trail around c.args.mode c.args.walk.left s component c.args.walk.slash seen) c.args.reach.now) c.args.reach.now c.jump_last.new.reach c.jump_last.result in
    subst P (sym is) (c.jump_last.ensures.outcome link component)
