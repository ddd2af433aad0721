use Rattle.std.proofs.Common.{◌≡◌, ◌<◌, ◌-◌, not, ap, ◌∙◌, arith}
use Rattle.pt_bind.specs.pr_base.Paths.{component_of, components_of}
use Rattle.kr_mounts.specs.Locations.{Spot, located_at, stepped}
use Rattle.kr_mounts.specs.Spots.{location_from, location_on, spot_of}
use Rattle.kr_mounts.proofs.LocationLemmas.{link_goes, link_loops, link_stays}
use Rattle.kr_mounts.proofs.StopLemmas.{stepped_memory}
use Rattle.kr_mounts.proofs.location.Locating.at_link.Goals as goal

pub moved-requires : goal.moved-requires
moved-requires c = record { below = c.requires.below; part = c.requires.part }

pub returns-in_err-spot : goal.returns-in_err-spot
returns-in_err-spot c = stepped_memory c.args.self.now (location_from c.args.self.now c.args.left (spot_of c.args.spot) (component_of c.args.part.now) (components_of c.args.behind.now) c.args.slash) c.args.left _ c.from_residual.ensures.0 c.from_residual.ensures.1

pub returns-then-stays : goal.returns-then-stays
returns-then-stays c =
    let q : Spot = record { text = stepped (spot_of c.args.spot).text (component_of c.args.part.now); place = c.requires.linked.0 } in
    let tested = c.stays.ensures in
    let stays = link_stays c.args.self.now c.args.left (spot_of c.args.spot) (component_of c.args.part.now) c.args.behind.now c.args.target.now c.args.slash (not c.has_parts-is_last.result) c.stays.result q c.requires.linked.1 (ap not c.has_parts-is_last.ensures) tested c.if-stays.true in
    (ap located_at c.in_ok-spot.ensures.0 ∙ stays, c.in_ok-spot.ensures.2)

pub returns-then-left-eq0 : goal.returns-then-left-eq0
returns-then-left-eq0 c =
    let q : Spot = record { text = stepped (spot_of c.args.spot).text (component_of c.args.part.now); place = c.requires.linked.0 } in
    link_loops c.args.self.now c.args.left (spot_of c.args.spot) (component_of c.args.part.now) c.args.behind.now c.args.target.now c.args.slash (not c.has_parts-is_last.result) c.stays.result q c.requires.linked.1 (ap not c.has_parts-is_last.ensures) c.stays.ensures c.if-stays.false c.if-left-eq0.true

pub follow-requires : goal.follow-requires
follow-requires c = c.requires.below

pub returns-in_err-walk : goal.returns-in_err-walk
returns-in_err-walk c = stepped_memory c.args.self.now (location_from c.args.self.now c.args.left (spot_of c.args.spot) (component_of c.args.part.now) (components_of c.args.behind.now) c.args.slash) c.args.left _ c.from_residual-in_err-walk.ensures.0 c.from_residual-in_err-walk.ensures.1

pub returns : goal.returns
returns c =
    let q : Spot = record { text = stepped (spot_of c.args.spot).text (component_of c.args.part.now); place = c.requires.linked.0 } in
    let walk = c.in_ok-walk.ensures in
    let goes = link_goes c.args.self.now c.args.left (spot_of c.args.spot) (component_of c.args.part.now) c.args.behind.now c.args.target.now c.args.slash (not c.has_parts-is_last.result) c.stays.result q c.requires.linked.1 (ap not c.has_parts-is_last.ensures) c.stays.ensures c.if-stays.false
    c.if-left-eq0.false c.slash_behind-slash.result c.slash_behind-slash.ensures in
    let less : c.in_ok-walk.walk.left < c.args.left = let is : c.in_ok-walk.walk.left ≡ c.args.left - 1 = walk.2 in let some = c.if-left-eq0.false in omega arith in
    ((λ i. location_on c.args.self.now (walk.2 i) (walk.0 i) (walk.1 i) (walk.3 i)) ∙ goes, less, walk.4)
