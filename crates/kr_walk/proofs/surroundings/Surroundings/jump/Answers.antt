use Rattle.std.proofs.Common.{◌-◌, sym, ap, ◌∙◌}
use Rattle.kr_view.specs.declared.procs.Lead.TheVariants.{Text, Jump}
use Rattle.kr_view.specs.Leads.{numbered, lead_numbered}
use Rattle.kr_walk.specs.Sights.{surroundings_of}
use Rattle.kr_view.specs.kr_tree.pr_base.WalkFrame.{walk_on}
use Rattle.kr_view.specs.Walk.{looking}
use Rattle.kr_walk.specs.Stacks.{stack_of}
use Rattle.kr_walk.proofs.OutcomeLemmas.{link_want, text_error, landing_error, landing_goes}
use Rattle.kr_walk.proofs.surroundings.Surroundings.jump.Goals as goal

pub returns-in_err-text-clause-outcome : goal.returns-in_err-text-clause-outcome
returns-in_err-text-clause-outcome g c = λ mode link.
    link_want g.P.Places.number (surroundings_of g.P.Places.number g.P.Places.mounts g.Q.Procs.finds g.Q.Procs.leads c.args.self.now) mode c.args.walk link _ c.args.reach.now _ c.from_residual.ensures.0 c.from_residual.ensures.1

pub returns-in_err-follow-in-Text-clause-outcome : goal.returns-in_err-follow-in-Text-clause-outcome
returns-in_err-follow-in-Text-clause-outcome g c = λ mode link.
    let around = surroundings_of g.P.Places.number g.P.Places.mounts g.Q.Procs.finds g.Q.Procs.leads c.args.self.now in
    let led = ap (lead_numbered g.P.Places.number) (sym c.in_ok-text.ensures ∙ c.in-Text.is) ∙ ap Text (sym c.as_slice.ensures) in
    text_error g.P.Places.number around mode c.args.walk link _ c.args.reach.now c.as_slice.result.now _ _ led c.from_residual-in_err-follow-in-Text.ensures.0 c.from_residual-in_err-follow-in-Text.ensures.1 c.in_err-follow-in-Text.ensures

pub returns-in_err-position-in-Jump-clause-outcome : goal.returns-in_err-position-in-Jump-clause-outcome
returns-in_err-position-in-Jump-clause-outcome g c = λ mode link.
    link_want g.P.Places.number (surroundings_of g.P.Places.number g.P.Places.mounts g.Q.Procs.finds g.Q.Procs.leads c.args.self.now) mode c.args.walk link _ c.args.reach.now _ c.from_residual-in_err-position-in-Jump.ensures.0 c.from_residual-in_err-position-in-Jump.ensures.1

pub returns-in_err-land-in-Jump-clause-outcome : goal.returns-in_err-land-in-Jump-clause-outcome
returns-in_err-land-in-Jump-clause-outcome g c = λ mode link.
    let around = surroundings_of g.P.Places.number g.P.Places.mounts g.Q.Procs.finds g.Q.Procs.leads c.args.self.now in
    let led = ap (lead_numbered g.P.Places.number) (sym c.in_ok-text.ensures ∙ c.in-Jump.is) ∙ ap (Jump (numbered g.P.Places.number c.in-Jump.place) c.in-Jump.dir) (sym c.as_slice-in-Jump.ensures) in
    landing_error g.P.Places.number around mode c.args.walk link _ c.args.reach.now (numbered g.P.Places.number c.in-Jump.place) c.in-Jump.dir c.as_slice-in-Jump.result.now c.land.new.reach _ led c.if-walk-eq0.false c.requires.more
    c.from_residual-in_err-land-in-Jump.ensures.0 c.from_residual-in_err-land-in-Jump.ensures.1 c.in_err-land-in-Jump.ensures

pub returns-in_ok-land-in-Jump-clause-outcome : goal.returns-in_ok-land-in-Jump-clause-outcome
returns-in_ok-land-in-Jump-clause-outcome g c = λ mode link.
    let around = surroundings_of g.P.Places.number g.P.Places.mounts g.Q.Procs.finds g.Q.Procs.leads c.args.self.now in
    let led = ap (lead_numbered g.P.Places.number) (sym c.in_ok-text.ensures ∙ c.in-Jump.is) ∙ ap (Jump (numbered g.P.Places.number c.in-Jump.place) c.in-Jump.dir) (sym c.as_slice-in-Jump.ensures) in
    landing_goes g.P.Places.number around mode c.args.walk link _ c.args.reach.now (numbered g.P.Places.number c.in-Jump.place) c.in-Jump.dir c.as_slice-in-Jump.result.now c.land.new.reach _ led c.if-walk-eq0.false c.requires.more
    c.in_ok-land-in-Jump.ensures
    (ap (λ q. walk_on (looking around) mode (c.args.walk.left - 1) (numbered g.P.Places.number q) (stack_of c.args.walk.rests) c.args.walk.slash) c.in_ok-position-in-Jump.ensures.place)
    c.in_ok-position-in-Jump.ensures.named
