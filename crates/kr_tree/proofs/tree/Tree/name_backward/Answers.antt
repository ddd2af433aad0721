use Rattle.std.proofs.Common.{◌≡◌, ℕ, ◌+◌, ◌-◌, ◌≤◌, ◌<◌, subst, sym, ap, ◌∙◌, arith, Some, None}
use Rattle.kr_tree.proofs.NameLemmas.{written, written-none, written-root, written-step}
use Rattle.kr_tree.proofs.tree.Tree.name_backward.Goals as goal

pub returns-then-at-eq-ROOT : goal.returns-then-at-eq-ROOT
returns-then-at-eq-ROOT c =
    sym (written-root c.loop-step.backward.items c.args.self.now.next c.loop-step._step c.args.self.now c.loop-step.at (subst (λ n. c.loop-step._step < n) (ap (λ t. t.next) c.self.view_is) c.loop-step-test.true) c.if-at-eq-ROOT.true) ∙ c.loop-step.invariant

pub returns-in-None : goal.returns-in-None
returns-in-None c =
    sym (written-step c.loop-step.backward.items c.args.self.now.next c.loop-step._step c.args.self.now c.loop-step.at (subst (λ n. c.loop-step._step < n) (ap (λ t. t.next) c.self.view_is) c.loop-step-test.true) c.if-at-eq-ROOT.false None c.in-None.ensures) ∙ c.loop-step.invariant

pub loop-step-preserved : goal.loop-step-preserved
loop-step-preserved c =
    ap (λ bytes. written bytes (c.args.self.now.next - (c.loop-step._step + 1)) c.args.self.now c.in-Some.up) c.in_ok-append_backward-in-Some.ensures
    ∙ sym (written-step c.loop-step.backward.items c.args.self.now.next c.loop-step._step c.args.self.now c.loop-step.at (subst (λ n. c.loop-step._step < n) (ap (λ t. t.next) c.self.view_is) c.loop-step-test.true) c.if-at-eq-ROOT.false (Some (c.in-Some.name.now, c.in-Some.up)) c.in-Some.ensures)
    ∙ c.loop-step.invariant

pub returns : goal.returns
returns c =
    sym (written-none c.loop-step.backward.items (c.args.self.now.next - c.loop-step._step) c.args.self.now c.loop-step.at (past c.loop-step._step c.self.inside.next c.args.self.now.next (ap (λ t. t.next) c.self.view_is) c.loop-step-test.false)) ∙ c.loop-step.invariant
  where
    past : (k n m : ℕ) → n ≡ m → n ≤ k → m - k ≡ 0
    past k n m e h = omega arith
