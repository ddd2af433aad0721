use Rattle.std.proofs.Common.{◌≡◌, ◌∙◌, ◌<◌, arith, sym, subst, Option, length}
use Rattle.std.specs.Prelude.{IfSome}
use Rattle.kr_perform.specs.kr_model.State.{Image, Process}
use Rattle.kr_perform.specs.kr_ops.Meaning.{meaning, process_meaning}
use Rattle.kr_steps.specs.Waiting.{goes_on}
use Rattle.kr_steps.proofs.PickLemmas.{counted-more, counted-same, element, failed-same, passed-more}
use Rattle.kr_steps.proofs.picking.ready_number.Goals.{then-goes_on, else-goes_on}
use Rattle.kr_steps.proofs.picking.ready_number.Goals as goal

pub loop-at-preserved : goal.loop-at-preserved
loop-at-preserved g c =
    let s = meaning c.args.state.now in
    let low : c.loop-at.at < length c.args.state.now.living.items = omega (arith, c.len-at-end.ensures, c.loop-at-test.true) in
    let (p, at) = element c.args.state.now.living.items c.loop-at.at low in
    let told = subst (λ (o : Option (Process g.row.T.Denot Image)). IfSome o (λ p. c.goes_on.result ≡ goes_on s p)) at c.goes_on.ensures in
    elim c.if-goes_on.branch [
      | then-goes_on w ↦ (counted-more c.loop-at.number c.loop-at.invariant.0 (passed-more (goes_on s) s.living c.loop-at.at (process_meaning p) at (sym told ∙ w.if-goes_on.true)) w.number-is, omega (arith, c.loop-at.invariant.1, w.number-is))
      | else-goes_on w ↦ (counted-same c.loop-at.number c.loop-at.invariant.0 (failed-same (goes_on s) s.living c.loop-at.at (process_meaning p) at (sym told ∙ w.if-goes_on.false)) w.number-is, omega (arith, c.loop-at.invariant.1, w.number-is))
    ]
