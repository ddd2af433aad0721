use Rattle.std.proofs.Common.{◌≡◌, ◌∙◌, ◌+◌, ap, sym, length, arith}
use Rattle.rv_mem.specs.Pages.{replaced, with_page}
use Rattle.rv_mem.proofs.PlanLemmas.{replaced-pop, replaced_end}
use Rattle.rv_mem.proofs.table.Table.replace_all.Goals as goal

pub loop-page-preserved : goal.loop-page-preserved
loop-page-preserved g c =
    let place : c.args.first + c.len.result ≡ c.args.first + length c.pop.new.self.items = omega (arith, c.len.ensures, c.pop.new.self.ok.0) in
    record {
      left = omega (arith, c.loop-page.invariant.left, c.in-Some.ensures.len, c.pop.new.self.ok.0, c.loop-page.pages.ok.0);
      so_far = ap (λ m. replaced m c.args.first c.pop.new.self.items) (c.replace.ensures ∙ ap (λ k. with_page c.loop-page.self k (λ _. c.in-Some.page)) place)
          ∙ sym (replaced-pop c.loop-page.self c.args.first c.pop.new.self.items c.in-Some.page)
          ∙ ap (replaced c.loop-page.self c.args.first) (sym c.in-Some.ensures.items)
          ∙ c.loop-page.invariant.so_far;
    }

pub returns : goal.returns
returns g c =
    let none = rw c.in_default.is at c.pop.ensures.cases in
    let empty : length c.loop-page.pages.items ≡ 0 = omega (arith, none.0, c.loop-page.pages.ok.0) in
    sym (replaced_end c.loop-page.self c.args.first c.loop-page.pages.items empty) ∙ c.loop-page.invariant.so_far
