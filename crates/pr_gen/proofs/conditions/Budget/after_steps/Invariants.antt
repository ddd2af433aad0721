use Rattle.std.proofs.Common.{drop}
use Rattle.pr_gen.specs.Steps.{texts}
use Rattle.pr_gen.proofs.Budgets.{Goes}
use Rattle.pr_gen.proofs.conditions.Budget.after_steps.Given as goal

abbrev pub invariant-loop-step : goal.invariant-loop-step
invariant-loop-step l = Goes l.fn.self (texts l.steps) l.left (texts (drop l.step-index l.steps))
