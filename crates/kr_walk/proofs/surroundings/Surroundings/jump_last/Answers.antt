use Rattle.std.proofs.Common.{◌≡◌, ◌||◌, sym, ap, subst, ◌∙◌}
use Rattle.kr_view.specs.kr_tree.pr_base.Paths.{has_slash}
use Rattle.kr_view.specs.declared.procs.Lead.TheVariants.{Text}
use Rattle.kr_view.specs.declared.target.Reach.{Reach}
use Rattle.kr_view.specs.Reach.{Covers, reached_landing}
use Rattle.kr_view.specs.Component.{landing}
use Rattle.kr_view.specs.Leads.{numbered, lead_numbered}
use Rattle.kr_walk.specs.Sights.{surroundings_of}
use Rattle.kr_view.proofs.ReachLemmas.{covers_landing}
use Rattle.kr_walk.proofs.LastLemmas.{last_want, last_text_error, landed_ends, landed_error}
use Rattle.kr_walk.proofs.surroundings.Surroundings.jump_last.Goals as goal

pub returns-in_err-text-clause-outcome : goal.returns-in_err-text-clause-outcome
returns-in_err-text-clause-outcome g c = λ link component.
    let around = surroundings_of g.P.Places.number g.P.Places.mounts g.Q.Procs.finds g.Q.Procs.leads c.args.self.now in
    last_want g.P.Places.number around c.args.mode c.args.walk link component _ c.args.reach.now _ c.from_residual.ensures.0 c.from_residual.ensures.1

pub returns-in_err-follow-in-Text-clause-outcome : goal.returns-in_err-follow-in-Text-clause-outcome
returns-in_err-follow-in-Text-clause-outcome g c = λ link component.
    let around = surroundings_of g.P.Places.number g.P.Places.mounts g.Q.Procs.finds g.Q.Procs.leads c.args.self.now in
    let led = ap (lead_numbered g.P.Places.number) (sym c.in_ok-text.ensures ∙ c.in-Text.is) ∙ ap Text (sym c.as_slice-in-Text.ensures) in
    let slashed = c.slash_behind-slash.ensures ∙ ap (λ t. c.args.walk.slash || has_slash t) (c.as_slice.ensures ∙ sym c.as_slice-in-Text.ensures) in
    last_text_error g.P.Places.number around c.args.mode c.args.walk link component _ c.args.reach.now c.as_slice-in-Text.result.now _ _ _ led slashed c.requires.followed c.requires.none
    c.from_residual-in_err-follow-in-Text.ensures.0 c.from_residual-in_err-follow-in-Text.ensures.1 c.in_err-follow-in-Text.ensures

pub returns-in_err-landed-in-Jump-clause-outcome : goal.returns-in_err-landed-in-Jump-clause-outcome
returns-in_err-landed-in-Jump-clause-outcome g c = λ link component.
    let around = surroundings_of g.P.Places.number g.P.Places.mounts g.Q.Procs.finds g.Q.Procs.leads c.args.self.now in
    let p = numbered g.P.Places.number c.in-Jump.place in
    let old = c.args.reach.now in
    let l = landing around.space p c.in-Jump.dir c.in-Jump.name in
    let led = ap (lead_numbered g.P.Places.number) (sym c.in_ok-text.ensures ∙ c.in-Jump.is) in
    let reached : c.land.new.reach ≡ reached_landing around.space l old = c.in_ok-land-in-Jump.ensures ∙ ap (λ n. reached_landing around.space (landing around.space p c.in-Jump.dir n) old) c.as_slice-in-Jump.ensures in
    landed_error g.P.Places.number around c.args.mode c.args.walk link component _ old p c.in-Jump.dir c.in-Jump.name c.land.new.reach _ _ led c.requires.followed c.if-walk-eq0.false reached
    c.from_residual-in_err-landed-in-Jump.ensures.0 c.from_residual-in_err-landed-in-Jump.ensures.1 c.in_err-landed-in-Jump.ensures
    (let P : Reach → Type 0 = λ n. Covers n old in subst P (sym reached) (covers_landing around l old))

pub returns-in_ok-landed-in-Jump-clause-outcome : goal.returns-in_ok-landed-in-Jump-clause-outcome
returns-in_ok-landed-in-Jump-clause-outcome g c = λ link component.
    let around = surroundings_of g.P.Places.number g.P.Places.mounts g.Q.Procs.finds g.Q.Procs.leads c.args.self.now in
    let p = numbered g.P.Places.number c.in-Jump.place in
    let old = c.args.reach.now in
    let led = ap (lead_numbered g.P.Places.number) (sym c.in_ok-text.ensures ∙ c.in-Jump.is) in
    let reached = c.in_ok-land-in-Jump.ensures ∙ ap (λ n. reached_landing around.space (landing around.space p c.in-Jump.dir n) old) c.as_slice-in-Jump.ensures in
    landed_ends g.P.Places.number around c.args.mode c.args.walk link component _ old p c.in-Jump.dir c.in-Jump.name c.land.new.reach c.in_ok-landed-in-Jump.field-0 led c.requires.followed c.if-walk-eq0.false reached
    c.in_ok-landed-in-Jump.ensures
