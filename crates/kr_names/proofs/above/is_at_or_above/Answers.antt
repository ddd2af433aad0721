use Rattle.std.proofs.Common.{◌≡◌, ◌+◌, ◌-◌, sym, ap, ◌∙◌, arith}
use Rattle.kr_seen.specs.kr_model.Known.{known}
use Rattle.kr_seen.specs.kr_model.NameRows.{is_within}
use Rattle.kr_seen.specs.kr_model.State.{image_layout}
use Rattle.kr_seen.specs.kr_ops.Meaning.{meaning}
use Rattle.kr_names.proofs.AboveLemmas.{one-left, within-end, within-here, within-up, within-zero}
use Rattle.kr_names.proofs.above.is_at_or_above.Goals as goal

pub loop-step-init : goal.loop-step-init
loop-step-init g c = λ pid.
    let steps : (c.from-limit.result + 2) - 0 ≡ c.args.state.now.tree.next + 2 = (let a = c.from-limit.ensures in let b = c.next_number.ensures in omega arith) in
    ap (λ n. is_within n (known image_layout pid (meaning c.args.state.now)) c.args.top c.args.dir) steps

pub loop-step-preserved : goal.loop-step-preserved
loop-step-preserved g c = λ pid.
    let k = known image_layout pid (meaning c.args.state.now) in
    let limit = c.from-limit.result + 2 in
    let other = sym c.same_host.ensures ∙ c.if-same_host.false in
    let up = sym (c.host_above.ensures pid) ∙ c.in-Some.is in
    sym (within-up k c.args.top c.loop-step.at (limit - (c.loop-step._step + 1)) c.in-Some.up other up)
    ∙ ap (λ n. is_within n k c.args.top c.loop-step.at) (sym (one-left limit c.loop-step._step c.loop-step-test.true))
    ∙ c.loop-step.invariant pid

pub returns-then-same_host : goal.returns-then-same_host
returns-then-same_host g c = λ pid.
    let k = known image_layout pid (meaning c.args.state.now) in
    let limit = c.from-limit.result + 2 in
    sym (ap (λ n. is_within n k c.args.top c.loop-step.at) (one-left limit c.loop-step._step c.loop-step-test.true)
    ∙ within-here k c.args.top c.loop-step.at (limit - (c.loop-step._step + 1)) (sym c.same_host.ensures ∙ c.if-same_host.true))
    ∙ c.loop-step.invariant pid

pub returns-in-None : goal.returns-in-None
returns-in-None g c = λ pid.
    let k = known image_layout pid (meaning c.args.state.now) in
    let limit = c.from-limit.result + 2 in
    sym (ap (λ n. is_within n k c.args.top c.loop-step.at) (one-left limit c.loop-step._step c.loop-step-test.true)
    ∙ within-end k c.args.top c.loop-step.at (limit - (c.loop-step._step + 1)) (sym c.same_host.ensures ∙ c.if-same_host.false) (sym (c.host_above.ensures pid) ∙ c.in-None.is))
    ∙ c.loop-step.invariant pid

pub returns : goal.returns
returns g c = λ pid.
    let k = known image_layout pid (meaning c.args.state.now) in
    let limit = c.from-limit.result + 2 in
    let spent : (c.from-limit.result + 2) - c.loop-step._step ≡ 0 = (let l = c.loop-step-test.false in omega arith) in
    sym (ap (λ n. is_within n k c.args.top c.loop-step.at) spent ∙ within-zero k c.args.top c.loop-step.at)
    ∙ c.loop-step.invariant pid
