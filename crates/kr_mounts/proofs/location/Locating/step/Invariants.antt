use Rattle.std.proofs.Common.{◌≡◌, length, map}
use Rattle.pt_bind.specs.pr_base.Parts.{parts_left}
use Rattle.pt_bind.specs.pr_base.Paths.{component_of}
use Rattle.kr_mounts.specs.Spots.{location_left, location_on, spot_of}
use Rattle.kr_mounts.specs.Texts.{IsBelow}
use Rattle.kr_mounts.proofs.location.Locating.step.Given as goal

abbrev pub invariant-loop-part : goal.invariant-loop-part
invariant-loop-part l = record {
  same : location_on l.self l.left (spot_of l.spot) (map component_of (parts_left l.parts)) l.slash ≡ location_left l.self l.fn.walk;
  below : IsBelow l.spot.text;
}

abbrev pub decreases-loop-part : goal.decreases-loop-part
decreases-loop-part l = length (parts_left l.parts)
