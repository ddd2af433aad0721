use Rattle.std.proofs.Common.{◌∙◌, sym, take, nat_eq}
use Rattle.std.specs.List.{list_any}
use Rattle.rv_mem.proofs.TableLemmas.{any-take_more, gone_more, kept_more}
use Rattle.rv_mem.proofs.table.Table.remove_all.Goals as goal

pub loop-number-preserved : goal.loop-number-preserved
loop-number-preserved g c = record {
  gone = λ q h. rw c.remove.ensures (gone_more c.loop-number.self _ q (list_any (nat_eq q) (take c.loop-number.number-index c.args.numbers.now)) (c.loop-number.invariant.gone q)
      (sym (any-take_more q c.loop-number.number-index c.args.numbers.now c.loop-number-test.true) ∙ h));
  others = λ q h. rw c.remove.ensures (kept_more c.loop-number.self c.args.self.now _ q (list_any (nat_eq q) (take c.loop-number.number-index c.args.numbers.now)) (c.loop-number.invariant.others q)
      (sym (any-take_more q c.loop-number.number-index c.args.numbers.now c.loop-number-test.true) ∙ h));
}
