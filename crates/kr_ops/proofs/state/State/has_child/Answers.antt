use Rattle.std.proofs.Common.{sym, ◌∙◌, arith}
use Rattle.kr_ops.specs.Children.{is_child}
use Rattle.kr_ops.specs.Meaning.{process_meaning}
use Rattle.kr_ops.proofs.AskLemmas.{both-pass, some-passes}
use Rattle.kr_ops.proofs.state.State.has_child.Goals as goal

pub returns-then-means : goal.returns-then-means
returns-then-means g c =
    sym
    (some-passes process_meaning (is_child c.args.parent c.args.meant) c.args.self.now.living.items c.loop-k.k c.index-process.result.now (omega (arith, c.loop-k-test.true, c.len-k-end.ensures)) c.index-process.ensures
    (both-pass c.index-process.result.now.parent c.args.parent _ c.if-process-parent.true (sym c.means.ensures ∙ c.if-means.true)))
