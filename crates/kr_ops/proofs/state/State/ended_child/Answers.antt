use Rattle.std.proofs.Common.{sym, ◌∙◌, arith}
use Rattle.kr_ops.specs.Children.{is_ended_child}
use Rattle.kr_ops.proofs.AskLemmas.{both-pass, number-fails, meant-fails, first-here, none-next}
use Rattle.kr_ops.proofs.state.State.ended_child.Goals as goal
use Rattle.kr_ops.proofs.state.State.ended_child.Goals.{else-process-parent-via-then-process-parent+else-means, else-process-parent-via-else-process-parent}

pub returns-then-means : goal.returns-then-means
returns-then-means g c =
    first-here (is_ended_child c.args.parent c.args.meant) c.args.self.now.ended.items c.loop-k.k c.index-process.result.now (omega (arith, c.loop-k-test.true, c.len-k-end.ensures)) c.index-process.ensures
    (both-pass c.index-process.result.now.parent c.args.parent _ c.if-process-parent.true (sym c.means.ensures ∙ c.if-means.true))
    c.loop-k.invariant

pub loop-k-preserved : goal.loop-k-preserved
loop-k-preserved g c =
    none-next (is_ended_child c.args.parent c.args.meant) c.args.self.now.ended.items c.loop-k.k c.index-process.result.now (omega (arith, c.loop-k-test.true, c.len-k-end.ensures)) c.index-process.ensures
    (elim c.else-process-parent.branch [
      | else-process-parent-via-then-process-parent+else-means w ↦ meant-fails c.index-process.result.now.parent c.args.parent _ (sym w.means.ensures ∙ w.if-means.false)
      | else-process-parent-via-else-process-parent w ↦ number-fails c.index-process.result.now.parent c.args.parent _ w.if-process-parent.false
    ])
    c.loop-k.invariant
