use Rattle.std.proofs.Common.{◌≤◌, ◌∙◌, arith}
use Rattle.rv_table.specs.declared.small.Small.TheVariants.{Nothing}
use Rattle.std.proofs.lemmas.List.{length-set}
use Rattle.rv_mem.proofs.CodeLemmas.{forgotten_more, kept_more}
use Rattle.rv_mem.proofs.code.forget_words.Goals as goal

pub loop-index-preserved : goal.loop-index-preserved
loop-index-preserved c =
    let entries = c.loop-index.entries.items in
    let index = c.loop-index.index in
    let i = c.loop-index.invariant in
    record {
      forgotten = forgotten_more entries c.args.first index i.forgotten (omega (arith, i.len));
      kept = kept_more entries c.args.entries.now.items c.args.first c.args.end index i.kept (omega arith) (omega arith);
      len = length-set entries index Nothing ∙ i.len;
    }
