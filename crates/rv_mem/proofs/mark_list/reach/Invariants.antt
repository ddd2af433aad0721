use Rattle.std.proofs.Common.{◌≡◌, ◌+◌, ◌-◌, ◌≤◌, ℕ, length, max}
use Rattle.std.specs.Vec.{vec_capacity, vec_len}
use Rattle.rv_mem.specs.Marks.{marks_at}
use Rattle.rv_mem.proofs.mark_list.reach.Given as goal

abbrev pub invariant-loop-all : goal.invariant-loop-all
invariant-loop-all l = record {
  same : (marked i : ℕ) → marks_at marked l.all.items i ≡ marks_at marked l.fn.all.items i;
  len : length l.all.items ≤ max (length l.fn.all.items) (l.place + 1);
  capacity : vec_capacity l.all ≡ vec_capacity l.fn.all;
}

abbrev pub decreases-loop-all : goal.decreases-loop-all
decreases-loop-all l = l.place + 1 - vec_len l.all
