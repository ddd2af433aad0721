use Rattle.std.proofs.Common.{◌+◌, take, length, sym, ap, ◌∙◌, arith}
use Rattle.pr_run.specs.Keeping.{puts_told}
use Rattle.pr_run.specs.Report.{outs}
use Rattle.pr_run.proofs.KeepLemmas.{output-more}
use Rattle.pr_run.proofs.keeping.output.Goals as goal

pub loop-written-preserved : goal.loop-written-preserved
loop-written-preserved c =
    let inv = c.loop-written.invariant in
    let k = c.loop-written.written-index in
    record {
      bytes_are = ap (λ n. n + c.len.result) inv.bytes_are ∙ ap (λ n. length (outs (puts_told (take k c.args.puts.now))) + n) c.len.ensures ∙ sym (output-more c.args.puts.now k c.written-item.result c.written-item.is c.loop-written-test.true);
      few = omega (arith, inv.few, c.len.type_inv);
    }
