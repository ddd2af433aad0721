use Rattle.std.proofs.Common.{◌≡◌, take}
use Rattle.kr_mounts.proofs.mounted.Mounted.build.Given as goal

abbrev pub invariant-loop-mount : goal.invariant-loop-mount
invariant-loop-mount l = l.mounted ≡ take l.mount-index l.settled
