use Rattle.std.specs.FinMap as map
use Rattle.std.proofs.Common.{◌≡◌, ◌≤◌, ◌+◌, ◌-◌, ◌*◌, ◌/◌, ◌%◌, ◌∙◌, ap, refl, sym, subst, [], ◌∷◌, length, take, drop, arith}
use Rattle.std.proofs.lemmas.List.{length-take-le, length-drop, length-append}
use Rattle.rv_mem.specs.Pages.{Pages, written, replaced, with_page}
use Rattle.rv_mem.proofs.AccessLemmas.{written-nil, written_more}
use Rattle.rv_mem.proofs.PlanLemmas.{IsPlanned, replaced-nil, replaced-push, get-replaced_past, planned, plan_start, plan_next, plan_more, plan_bound}
use Rattle.rv_mem.proofs.table.Table.plan.Goals as goal

pub loop-done-init : goal.loop-done-init
loop-done-init g c = record {
  within = omega arith;
  pages = ap (replaced c.args.self.now (c.args.at / 4096)) c.new-pages.ensures.items ∙ replaced-nil c.args.self.now (c.args.at / 4096) ∙ sym (written-nil c.args.self.now c.args.at);
  place = rw c.new-pages.ensures.items (plan_start c.args.at (length c.args.bytes.now));
}

pub loop-done-preserved : goal.loop-done-preserved
loop-done-preserved g c =
    let m = c.args.self.now in
    let done = c.loop-done.done in
    let count = c.min-count.result in
    let next = c.args.at + done in
    let first = c.args.at / 4096 in
    let pages = c.loop-done.pages.items in
    let before : Pages = written m c.args.at (take done c.args.bytes.now) in
    let within : done + count ≤ length c.args.bytes.now = omega (arith, c.min-count.ensures) in
    let long : done + count - done ≡ count = omega arith in
    let chunk = take (done + count - done) (drop done c.args.bytes.now) in
    let size : length chunk ≡ done + count - done = length-take-le (done + count - done) (drop done c.args.bytes.now) (omega (arith, length-drop done c.args.bytes.now)) in
    let number : next / 4096 ≡ first + length pages = plan_next c.args.at done (length c.args.bytes.now) (length pages) c.loop-done.invariant.place c.loop-done-test.true in
    let placed : next ≡ next / 4096 * 4096 + next % 4096 = omega arith in
    let inside : next % 4096 + length chunk ≤ 4096 = omega (arith, size, c.min-count.ensures) in
    let same : map.get before (next / 4096) ≡ map.get m (next / 4096)
    = ap (λ w. map.get w (next / 4096)) (sym c.loop-done.invariant.pages) ∙ get-replaced_past m first (next / 4096) pages (omega (arith, number)) in
    let len : length c.push.new.self.items ≡ length pages + 1 = ap length c.in_ok-push.ensures.items ∙ length-append pages (c.in_ok-page.page ∷ []) in
    record {
      within = within;
      pages = ap (replaced m first) c.in_ok-push.ensures.items
          ∙ replaced-push m first pages c.in_ok-page.page
          ∙ ap (λ w. with_page w (first + length pages) (λ _. c.in_ok-page.page)) c.loop-done.invariant.pages
          ∙ ap (λ k. with_page before k (λ _. c.in_ok-page.page)) (sym number)
          ∙ sym (planned m before (next / 4096) (next % 4096) next chunk c.in_ok-page.page placed inside same c.in_ok-page.ensures)
          ∙ written_more m before c.args.at done count (done + count - done) c.args.bytes.now refl within long;
      place = subst (IsPlanned c.args.at (done + count) (length c.args.bytes.now)) (sym len)
          (plan_more c.args.at done (length c.args.bytes.now) (length pages) count c.loop-done.invariant.place c.loop-done-test.true c.min-count.ensures);
    }

pub returns-clause-count : goal.returns-clause-count
returns-clause-count g c = plan_bound c.args.at c.loop-done.done (length c.args.bytes.now) _ c.loop-done.invariant.place c.loop-done.invariant.within c.requires.fits c.ranges.at.fits
