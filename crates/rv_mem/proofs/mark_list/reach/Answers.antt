use Rattle.std.proofs.Common.{◌≡◌, ◌+◌, ◌∙◌, ap, length, [], ◌∷◌, arith}
use Rattle.std.proofs.lemmas.List.{length-append}
use Rattle.rv_mem.specs.Marks.{marks_at}
use Rattle.rv_mem.proofs.PageListLemmas.{marks_at-push}
use Rattle.rv_mem.proofs.mark_list.reach.Goals as goal

pub loop-all-preserved : goal.loop-all-preserved
loop-all-preserved c =
    let items = c.loop-all.all.items in
    let size : length c.push_reserved.new.self.items ≡ length items + 1 = ap length c.push_reserved.ensures.items ∙ length-append items (c.none.result ∷ []) in
    record {
      same = λ marked i. ap (λ l. marks_at marked l i) c.push_reserved.ensures.items ∙ marks_at-push marked items c.none.result i c.none.ensures ∙ c.loop-all.invariant.same marked i;
      len = omega (arith, size, c.loop-all.invariant.len, c.loop-all-test.true, c.len.ensures, c.loop-all.all.ok.0);
      capacity = c.push_reserved.ensures.capacity ∙ c.loop-all.invariant.capacity;
    }
