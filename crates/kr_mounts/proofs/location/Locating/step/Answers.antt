use Rattle.std.proofs.Common.{◌≡◌, ◌∷◌, [], Result, map, refl, sym, ap, subst, ◌∙◌}
use Rattle.std.specs.Option.{option_map}
use Rattle.pt_bind.specs.pr_base.Parts.{parts_left, rest_of}
use Rattle.pt_bind.specs.pr_base.Paths.{component_of, components_of}
use Rattle.pt_bind.specs.pr_base.Texts.{Text}
use Rattle.kr_walk.specs.kr_view.View.{node_in}
use Rattle.kr_mounts.specs.Locations.{Spot, stepped}
use Rattle.kr_mounts.specs.Spots.{IsStepped, location_from, location_left, location_on, spot_of}
use Rattle.kr_mounts.specs.declared.fault.BindWhy.{BindWhy}
use Rattle.kr_mounts.proofs.LocationLemmas.{ends_at, fails_at, goes_on, part_is}
use Rattle.kr_mounts.proofs.StopLemmas.{stepped_memory}
use Rattle.kr_mounts.proofs.location.Locating.step.Goals as goal

pub loop-part-init : goal.loop-part-init
loop-part-init c =
    let read = c.into_iter-parts.ensures.into_iter_gives ∙ c.components.ensures ∙ c.as_slice.ensures in
    record { same = ap (λ bytes. location_on c.args.self.now c.args.walk.left (spot_of c.args.walk.spot) (components_of bytes) c.args.walk.slash) read; below = c.requires }

pub returns-in-Fails : goal.returns-in-Fails
returns-in-Fails c =
    let spot = spot_of c.loop-part.spot in
    let part = component_of c.in-Some.part.now in
    let behind = map component_of (parts_left c.next.new.self) in
    let now : location_on c.args.self.now c.args.walk.left spot (part ∷ behind) c.args.walk.slash ≡ location_left c.args.self.now c.args.walk =
    sym (ap (λ parts. location_on c.args.self.now c.args.walk.left spot (map component_of parts) c.args.walk.slash) c.in-Some.ensures.steps) ∙ c.loop-part.invariant.same in
    let sight = c.in-Fails.ensures spot refl in
    sym (fails_at c.args.self.now c.args.walk.left spot sight.0 part behind c.args.walk.slash sight.1) ∙ now

pub moved-requires : goal.moved-requires
moved-requires c = record { below = c.loop-part.invariant.below; part = part_is (rest_of c.loop-part.parts) c.in-Some.part.now (parts_left c.next.new.self) c.in-Some.ensures.steps }

pub returns-in_err-spot-in-Leads : goal.returns-in_err-spot-in-Leads
returns-in_err-spot-in-Leads c = stepped_memory c.args.self.now (location_left c.args.self.now c.args.walk) c.args.walk.left _ c.from_residual.ensures.0 c.from_residual.ensures.1

pub loop-part-preserved : goal.loop-part-preserved
loop-part-preserved c =
    let spot = spot_of c.loop-part.spot in
    let part = component_of c.in-Some.part.now in
    let behind = map component_of (parts_left c.next.new.self) in
    let now : location_on c.args.self.now c.args.walk.left spot (part ∷ behind) c.args.walk.slash ≡ location_left c.args.self.now c.args.walk =
    sym (ap (λ parts. location_on c.args.self.now c.args.walk.left spot (map component_of parts) c.args.walk.slash) c.in-Some.ensures.steps) ∙ c.loop-part.invariant.same in
    let moved = c.in_ok-spot-in-Leads.ensures in
    let q : Spot = record { text = stepped spot.text part; place = option_map (node_in 0) c.in-Leads.place } in
    let here : spot_of c.in_ok-spot-in-Leads.spot ≡ q = λ i. record { text = moved.0 i; place = option_map (node_in 0) (moved.1 i) } in
    record {
      same = ap (λ s. location_on c.args.self.now c.args.walk.left s behind c.args.walk.slash) here
          ∙ sym (goes_on c.args.self.now c.args.walk.left spot q part behind c.args.walk.slash (c.in-Leads.ensures spot refl)) ∙ now;
      below = moved.2;
    }

pub at_link-requires : goal.at_link-requires
at_link-requires c =
    record {
      below = c.loop-part.invariant.below;
      part = part_is (rest_of c.loop-part.parts) c.in-Some.part.now (parts_left c.next.new.self) c.in-Some.ensures.steps;
      linked = c.in-Links.ensures (spot_of c.loop-part.spot) refl;
    }

pub returns-in-Links : goal.returns-in-Links
returns-in-Links c =
    let spot = spot_of c.loop-part.spot in
    let part = component_of c.in-Some.part.now in
    let behind = map component_of (parts_left c.next.new.self) in
    let now : location_on c.args.self.now c.args.walk.left spot (part ∷ behind) c.args.walk.slash ≡ location_left c.args.self.now c.args.walk =
    sym (ap (λ parts. location_on c.args.self.now c.args.walk.left spot (map component_of parts) c.args.walk.slash) c.in-Some.ensures.steps) ∙ c.loop-part.invariant.same in
    let P : Result Text BindWhy → Type 0 = λ a. IsStepped c.args.self.now a c.args.walk.left c.at_link.result in
    subst P (ap (λ bytes. location_from c.args.self.now c.args.walk.left spot part (components_of bytes) c.args.walk.slash) c.rest.ensures ∙ now) c.at_link.ensures

pub returns : goal.returns
returns c =
    let spot = spot_of c.loop-part.spot in
    let now : location_on c.args.self.now c.args.walk.left spot [] c.args.walk.slash ≡ location_left c.args.self.now c.args.walk =
    sym (ap (λ parts. location_on c.args.self.now c.args.walk.left spot (map component_of parts) c.args.walk.slash) c.in_default.ensures.steps.0) ∙ c.loop-part.invariant.same in
    (sym (ends_at c.args.self.now c.args.walk.left spot c.args.walk.slash) ∙ now, c.loop-part.invariant.below)
