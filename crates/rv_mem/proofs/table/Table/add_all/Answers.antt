use Rattle.std.proofs.Common.{◌∙◌, sym, ap, take, nat_eq}
use Rattle.std.specs.FinMap as map
use Rattle.std.specs.List.{list_any}
use Rattle.rv_mem.specs.Page.{fresh_page}
use Rattle.rv_mem.proofs.TableLemmas.{any-take_more, added_more, others_more, undone}
use Rattle.rv_mem.proofs.table.Table.add_all.Goals as goal

pub returns-in-Err-clause-err : goal.returns-in-Err-clause-err
returns-in-Err-clause-err g c =
    undone c.args.self.now c.loop-number.self c.remove_all.new.self c.args.numbers.now c.loop-number.number-index c.requires c.loop-number.invariant.others
    c.remove_all.ensures.gone (λ q h. c.remove_all.ensures.others q h ∙ ap (λ m. map.get m q) c.in-Err.ensures.err)

pub loop-number-preserved : goal.loop-number-preserved
loop-number-preserved g c = record {
  added = λ q h. rw c.in_default.ensures.ok (added_more c.loop-number.self _ q (fresh_page c.args.rights) (list_any (nat_eq q) (take c.loop-number.number-index c.args.numbers.now)) (c.loop-number.invariant.added q)
      (sym (any-take_more q c.loop-number.number-index c.args.numbers.now c.loop-number-test.true) ∙ h));
  others = λ q h. rw c.in_default.ensures.ok (others_more c.loop-number.self c.args.self.now _ q (fresh_page c.args.rights) (list_any (nat_eq q) (take c.loop-number.number-index c.args.numbers.now)) (c.loop-number.invariant.others q)
      (sym (any-take_more q c.loop-number.number-index c.args.numbers.now c.loop-number-test.true) ∙ h));
}
