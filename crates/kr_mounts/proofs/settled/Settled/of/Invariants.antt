use Rattle.std.proofs.Common.{◌≡◌, map, take}
use Rattle.kr_mounts.specs.declared.mount.Mount.{Mount}
use Rattle.kr_mounts.proofs.settled.Settled.of.Given as goal

abbrev pub invariant-loop-mount : goal.invariant-loop-mount
invariant-loop-mount l = l.bounds.items ≡ map (λ (m : Mount). m.text) (take l.mount-index l.fn.mounts.items)
