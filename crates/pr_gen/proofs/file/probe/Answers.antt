use Rattle.std.proofs.Common.{length, arith, ap}
use Rattle.pr_gen.proofs.Bounds.{room-bound}
use Rattle.pr_gen.proofs.file.probe.Goals as goal

pub put_steps-requires-clause-texts : goal.put_steps-requires-clause-texts
put_steps-requires-clause-texts c = omega (arith, room-bound c.args.steps.now c.requires)

pub data_of-requires : goal.data_of-requires
data_of-requires c = omega (arith, room-bound c.args.steps.now c.requires)

pub write-requires-clause-within : goal.write-requires-clause-within
write-requires-clause-within c =
    omega (arith, ap length c.as_slice.ensures, ap length c.deref.ensures.value, c.in_ok-code-2.ensures.short, c.in_ok-data.ensures, room-bound c.args.steps.now c.requires)
