use Rattle.std.proofs.Common.{Ok, Result, sym, ap, subst, ◌∙◌}
use Rattle.pt_bind.specs.pr_base.Paths.{components_of, has_slash}
use Rattle.pt_bind.specs.pr_base.Texts.{Text}
use Rattle.pt_bind.specs.pr_base.WalkFrame.{most_links}
use Rattle.kr_mounts.specs.Locations.{location_walked}
use Rattle.kr_mounts.specs.Spots.{IsLocated, IsStepped, location_left, location_on}
use Rattle.kr_mounts.specs.declared.fault.BindWhy.{BindWhy}
use Rattle.kr_mounts.specs.declared.location.Step.{Step}
use Rattle.kr_mounts.specs.declared.location.Step.TheVariants.{Goes, Ends}
use Rattle.kr_mounts.proofs.LocationLemmas.{location_begins}
use Rattle.kr_mounts.proofs.StopLemmas.{located_error}
use Rattle.kr_mounts.proofs.location.Locating.walked.Goals as goal

pub steps-init : goal.steps-init
steps-init c =
    let spot = c.start.ensures.spot in
    let rest = c.in_ok-rest.ensures in
    let slash = c.slash.ensures ∙ ap has_slash c.components.ensures in
    record {
      same = (λ i. location_on c.args.self.now most_links (spot i) (components_of (rest i)) (slash i)) ∙ sym (location_begins c.args.self.now c.args.path.now);
      below = c.start.ensures.below;
    }

pub step-requires : goal.step-requires
step-requires c = c.steps.invariant.below

pub returns-in_err-on : goal.returns-in_err-on
returns-in_err-on c =
    located_error c.args.self.now (location_left c.args.self.now c.steps.walk) (location_walked c.args.self.now.tree.now c.args.self.now.user c.args.self.now.root c.args.self.now.keep c.args.path.now) c.steps.walk.left c.steps.invariant.same
    _ c.in_err-on.ensures _ c.from_residual-in_err-on.ensures.0 c.from_residual-in_err-on.ensures.1

pub steps-preserved : goal.steps-preserved
steps-preserved c =
    let P : Step → Type 0 = λ s. IsStepped c.args.self.now (location_left c.args.self.now c.steps.walk) c.steps.walk.left (Ok s) in
    let out : P (Goes c.in-Goes.on) = subst P c.in-Goes.is c.in_ok-on.ensures in
    record { same = out.0 ∙ c.steps.invariant.same; below = out.2 }

pub steps-smaller : goal.steps-smaller
steps-smaller c =
    let P : Step → Type 0 = λ s. IsStepped c.args.self.now (location_left c.args.self.now c.steps.walk) c.steps.walk.left (Ok s) in
    let out : P (Goes c.in-Goes.on) = subst P c.in-Goes.is c.in_ok-on.ensures in out.1

pub located-requires : goal.located-requires
located-requires c =
    let P : Step → Type 0 = λ s. IsStepped c.args.self.now (location_left c.args.self.now c.steps.walk) c.steps.walk.left (Ok s) in
    let out : P (Ends c.in-Ends.text) = subst P c.in-Ends.is c.in_ok-on.ensures in out.1

pub returns-in-Ends : goal.returns-in-Ends
returns-in-Ends c =
    let P : Step → Type 0 = λ s. IsStepped c.args.self.now (location_left c.args.self.now c.steps.walk) c.steps.walk.left (Ok s) in
    let out : P (Ends c.in-Ends.text) = subst P c.in-Ends.is c.in_ok-on.ensures in
    let Q : Result Text BindWhy → Type 0 = λ a. IsLocated a c.located.result in
    subst Q (out.0 ∙ c.steps.invariant.same) c.located.ensures
