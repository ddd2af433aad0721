use Rattle.std.proofs.Common.{◌≡◌, ℕ, arith, length, ◌<◌, ◌+◌, ◌∙◌, ap, sym, subst, Option, drop, slice_get}
use Rattle.std.specs.Prelude.{IfSome}
use Rattle.std.specs.List.{filter}
use Rattle.std.specs.Option.{option_map}
use Rattle.kr_perform.specs.kr_model.State.{Image, Process}
use Rattle.kr_perform.specs.kr_ops.Meaning.{meaning, process_meaning}
use Rattle.kr_steps.specs.Waiting.{goes_on}
use Rattle.kr_steps.proofs.PickLemmas.{element, failed-next, passed-first, passed-next, process-at}
use Rattle.kr_steps.proofs.picking.ready.Goals.{then-goes_on+else-before-eq0, else-goes_on}
use Rattle.kr_steps.proofs.picking.ready.Goals as goal

pub returns-then-before-eq0 : goal.returns-then-before-eq0
returns-then-before-eq0 g c =
    let s = meaning c.args.state.now in
    let p = c.index.result.now in
    let low : c.loop-at.at < length c.args.state.now.living.items = omega (arith, c.len-at-end.ensures, c.loop-at-test.true) in
    let at = process-at c.args.state.now.living.items c.loop-at.at p low c.index.ensures in
    let passes = sym (subst (λ (o : Option (Process g.row.T.Denot Image)). IfSome o (λ p. c.goes_on.result ≡ goes_on s p)) at c.goes_on.ensures) ∙ c.if-goes_on.true in
    let left = ap (slice_get (filter (goes_on s) (drop c.loop-at.at s.living))) c.if-before-eq0.true in
    ap (option_map (λ (p : Process g.row.T.Denot Image). p.pid)) (sym (c.loop-at.invariant ∙ left ∙ passed-first (goes_on s) s.living c.loop-at.at (process_meaning p) at passes))

pub loop-at-preserved : goal.loop-at-preserved
loop-at-preserved g c =
    let s = meaning c.args.state.now in
    let low : c.loop-at.at < length c.args.state.now.living.items = omega (arith, c.len-at-end.ensures, c.loop-at-test.true) in
    let (p, at) = element c.args.state.now.living.items c.loop-at.at low in
    let told = subst (λ (o : Option (Process g.row.T.Denot Image)). IfSome o (λ p. c.goes_on.result ≡ goes_on s p)) at c.goes_on.ensures in
    let rest = λ (b : ℕ). slice_get (filter (goes_on s) (drop (c.loop-at.at + 1) s.living)) b in
    elim c.if-goes_on.branch [
      | then-goes_on+else-before-eq0 w ↦ c.loop-at.invariant ∙ passed-next (goes_on s) s.living c.loop-at.at (process_meaning p) at c.loop-at.before (sym told ∙ w.if-goes_on.true) w.if-before-eq0.false ∙ ap rest (sym w.before-is)
      | else-goes_on w ↦ c.loop-at.invariant ∙ failed-next (goes_on s) s.living c.loop-at.at (process_meaning p) at c.loop-at.before (sym told ∙ w.if-goes_on.false) ∙ ap rest (sym w.before-is)
    ]
