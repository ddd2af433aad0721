use Rattle.std.proofs.Common.{subst, sym, ap, ◌<◌, ◌≤◌, refl}
use Rattle.kr_tree.specs.Lawful.{IsKept, IsBelow, Here}
use Rattle.kr_tree.proofs.BelowLemmas.{below_step, steps_left, steps_end}
use Rattle.kr_tree.proofs.tree.Tree.is_below.Goals as goal

pub returns-then-at-top : goal.returns-then-at-top
returns-then-at-top c = (λ _. c.loop-step.invariant.same.1 (subst (λ k. IsBelow c.args.self.now c.args.top k) (sym c.if-at-top.true) Here), λ _. refl)

pub loop-step-preserved : goal.loop-step-preserved
loop-step-preserved c =
    let t = c.args.self.now in
    let kept : IsKept t = subst IsKept c.self.view_is c.self.invariant in
    let step = below_step t c.args.top c.loop-step.at c.in-Some.up c.if-at-top.false c.if-at-eq-ROOT.false (sym c.in-Some.ensures) in
    record {
      same = (λ h. step.0 (c.loop-step.invariant.same.0 h), λ h. c.loop-step.invariant.same.1 (step.1 h));
      steps = steps_left t kept.sound c.loop-step._step c.loop-step.at c.in-Some.up (subst (λ n. c.loop-step._step < n) (ap (λ t. t.next) c.self.view_is) c.loop-step-test.true) c.if-at-eq-ROOT.false (sym c.in-Some.ensures) c.loop-step.invariant.steps;
    }

pub returns : goal.returns
returns c =
    let kept : IsKept c.args.self.now = subst IsKept c.self.view_is c.self.invariant in
    absurd (steps_end c.args.self.now kept.sound c.loop-step._step c.loop-step.at (subst (λ n. n ≤ c.loop-step._step) (ap (λ t. t.next) c.self.view_is) c.loop-step-test.false) c.loop-step.invariant.steps)
