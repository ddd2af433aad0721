use Rattle.std.proofs.Common.{sym, ap, ◌∙◌}
use Rattle.std.specs.Option.{option_map}
use Rattle.pt_bind.specs.pr_base.Paths.{component_of}
use Rattle.kr_walk.specs.kr_view.View.{node_in}
use Rattle.kr_mounts.proofs.SightLemmas.{sight_by_text, sight_in_none, sight_inside, sight_refused}
use Rattle.kr_mounts.proofs.location.Locating.look.Goals as goal

pub returns-in_default : goal.returns-in_default
returns-in_default c = λ spot at. sight_by_text c.args.self.now spot (component_of c.args.part.now) spot.place (at ∙ ap (option_map (node_in 0)) c.in_default.is)

pub returns-then-not-is_directory : goal.returns-then-not-is_directory
returns-then-not-is_directory c = λ spot at.
    sight_in_none c.args.self.now spot (component_of c.args.part.now) spot.place (node_in 0 c.in-Some.at) (at ∙ ap (option_map (node_in 0)) c.in-Some.is) (sym c.is_directory.ensures ∙ c.if-not-is_directory.true)

pub returns-then-not-may : goal.returns-then-not-may
returns-then-not-may c = λ spot at.
    sight_refused c.args.self.now spot (component_of c.args.part.now) spot.place (node_in 0 c.in-Some.at) (at ∙ ap (option_map (node_in 0)) c.in-Some.is) (sym c.is_directory.ensures ∙ c.if-not-is_directory.false) (sym c.may.ensures ∙ c.if-not-may.true)

pub returns : goal.returns
returns c = λ spot at.
    sight_inside c.args.self.now spot (component_of c.args.part.now) spot.place (node_in 0 c.in-Some.at) c.inside.result (at ∙ ap (option_map (node_in 0)) c.in-Some.is) (sym c.is_directory.ensures ∙ c.if-not-is_directory.false) (sym c.may.ensures ∙ c.if-not-may.false) c.inside.ensures
