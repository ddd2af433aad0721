use Rattle.std.proofs.Common.{◌≡◌, ◌≤◌, ◌-◌, false, length, take}
use Rattle.std.specs.List.{list_any}
use Rattle.kr_calm.specs.Questions.{row_answers}
use Rattle.kr_calm.proofs.rows.any_row.Given as goal

abbrev pub invariant-loop-row : goal.invariant-loop-row
invariant-loop-row g l = (list_any (row_answers l.question l.tree) (take l.k (g.P.Places.mounts l.places)) ≡ false) × (l.k ≤ length (g.P.Places.mounts l.places))

abbrev pub decreases-loop-row : goal.decreases-loop-row
decreases-loop-row g l = length (g.P.Places.mounts l.places) - l.k
