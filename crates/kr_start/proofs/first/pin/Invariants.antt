use Rattle.std.proofs.Common.{◌≡◌, ◌≤◌, ◌-◌, length, take}
use Rattle.kr_start.specs.Start.{pinned}
use Rattle.kr_start.proofs.first.pin.Given as goal

abbrev pub invariant-loop-row : goal.invariant-loop-row
invariant-loop-row g l = (l.tree ≡ pinned (take l.k (g.P.Places.mounts l.places)) l.initial.tree) × (l.k ≤ length (g.P.Places.mounts l.places))

abbrev pub decreases-loop-row : goal.decreases-loop-row
decreases-loop-row g l = length (g.P.Places.mounts l.places) - l.k
