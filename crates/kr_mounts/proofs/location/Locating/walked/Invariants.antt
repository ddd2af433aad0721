use Rattle.std.proofs.Common.{◌≡◌}
use Rattle.kr_mounts.specs.Locations.{location_walked}
use Rattle.kr_mounts.specs.Spots.{location_left}
use Rattle.kr_mounts.specs.Texts.{IsBelow}
use Rattle.kr_mounts.proofs.location.Locating.walked.Given as goal

abbrev pub invariant-steps : goal.invariant-steps
invariant-steps l = record {
  same : location_left l.self l.walk ≡ location_walked l.self.tree.now l.self.user l.self.root l.self.keep l.path;
  below : IsBelow l.walk.spot.text;
}

abbrev pub decreases-steps : goal.decreases-steps
decreases-steps l = l.walk.left
