use Rattle.std.proofs.Common.{drop}
use Rattle.pr_gen.specs.Steps.{texts_in}
use Rattle.pr_gen.proofs.Budgets.{Goes}
use Rattle.pr_gen.proofs.conditions.Budget.after_args.Given as goal

abbrev pub invariant-loop-arg : goal.invariant-loop-arg
invariant-loop-arg l = Goes l.fn.self (texts_in l.args) l.left (texts_in (drop l.arg-index l.args))
