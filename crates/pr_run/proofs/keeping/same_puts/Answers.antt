use Rattle.std.proofs.Common.{sym, ◌∙◌, arith}
use Rattle.pr_run.proofs.KeepLemmas.{same-at}
use Rattle.pr_run.proofs.keeping.same_puts.Goals as goal

pub returns-then-not-same_bytes : goal.returns-then-not-same_bytes
returns-then-not-same_bytes c = (
  λ e. absurd cc,
  λ e. sym c.if-not-same_bytes.true
      ∙ c.same_bytes.ensures.1 (same-at c.args.a.now c.args.b.now c.loop-k.k c.index-a-k.result c.index-b-k.result c.index-a-k.is c.index-b-k.is c.loop-k-test.true (omega (arith, c.if-a-b.false, c.loop-k-test.true)) e),
)
