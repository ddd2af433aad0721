use Rattle.std.proofs.Common.{◌+◌, drop}
use Rattle.pr_gen.specs.Budget.{step_texts}
use Rattle.pr_gen.specs.Steps.{texts}
use Rattle.pr_gen.proofs.Budgets.{goes_more, goes_wrong, next_step}
use Rattle.pr_gen.proofs.conditions.Budget.after_steps.Goals as goal

pub returns-in_err-left-clause-none : goal.returns-in_err-left-clause-none
returns-in_err-left-clause-none c =
    let steps = c.args.steps.now in
    let k = c.loop-step.step-index in
    rw c.from_residual.ensures (goes_wrong c.args.self c.loop-step.left (texts steps) (texts (drop k steps)) (step_texts c.step-item.result) (texts (drop (k + 1) steps)) c.loop-step.invariant (next_step steps k c.step-item.result c.loop-step-test.true c.step-item.is) c.in_err-left.ensures.none)

pub loop-step-preserved : goal.loop-step-preserved
loop-step-preserved c =
    let steps = c.args.steps.now in
    let k = c.loop-step.step-index in
    goes_more c.args.self c.loop-step.left c.in_ok-left.left (texts steps) (texts (drop k steps)) (step_texts c.step-item.result) (texts (drop (k + 1) steps)) c.loop-step.invariant (next_step steps k c.step-item.result c.loop-step-test.true c.step-item.is) c.in_ok-left.ensures.some
