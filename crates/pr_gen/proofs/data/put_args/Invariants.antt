use Rattle.std.proofs.Common.{◌≡◌, ◌+◌, length, drop}
use Rattle.pr_gen.specs.Steps.{room_in}
use Rattle.pr_gen.proofs.data.put_args.Given as goal

-- the data so far, and the room of the arguments that are left
abbrev pub invariant-loop-arg : goal.invariant-loop-arg
invariant-loop-arg l = length l.out.items + room_in (drop l.arg-index l.args) ≡ length l.initial.out.items + room_in l.args
