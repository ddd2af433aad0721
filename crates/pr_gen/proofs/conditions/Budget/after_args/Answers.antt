use Rattle.std.proofs.Common.{◌+◌, drop}
use Rattle.pr_gen.specs.Steps.{texts_in, texts_of}
use Rattle.pr_gen.proofs.Budgets.{goes_more, goes_wrong, next_arg}
use Rattle.pr_gen.proofs.conditions.Budget.after_args.Goals as goal

pub returns-in_err-left-clause-none : goal.returns-in_err-left-clause-none
returns-in_err-left-clause-none c =
    let args = c.args.args.now in
    let k = c.loop-arg.arg-index in
    rw c.from_residual.ensures (goes_wrong c.args.self c.loop-arg.left (texts_in args) (texts_in (drop k args)) (texts_of c.arg-item.result) (texts_in (drop (k + 1) args)) c.loop-arg.invariant (next_arg args k c.arg-item.result c.loop-arg-test.true c.arg-item.is) c.in_err-left.ensures.none)

pub loop-arg-preserved : goal.loop-arg-preserved
loop-arg-preserved c =
    let args = c.args.args.now in
    let k = c.loop-arg.arg-index in
    goes_more c.args.self c.loop-arg.left c.in_ok-left.left (texts_in args) (texts_in (drop k args)) (texts_of c.arg-item.result) (texts_in (drop (k + 1) args)) c.loop-arg.invariant (next_arg args k c.arg-item.result c.loop-arg-test.true c.arg-item.is) c.in_ok-left.ensures.some
