use Rattle.std.proofs.Common.{◌≡◌, ◌≤◌, ◌+◌, ◌%◌, ◌∙◌, sym, ap, arith}
use Rattle.rv_mem.specs.Pages.{allows_all}
use Rattle.rv_mem.proofs.PagesLemmas.{allows_all_refused}
use Rattle.rv_mem.proofs.AccessLemmas.{allows_all-zero, allows_all_rest}
use Rattle.rv_mem.proofs.table.Table.allows_all.Goals as goal

pub returns-then-not-allows : goal.returns-then-not-allows
returns-then-not-allows g c =
    sym (c.loop-left.invariant ∙ allows_all_refused c.args.self.now c.loop-left.next c.loop-left.left c.args.what (omega arith) (sym c.allows.ensures ∙ c.if-not-allows.true))

pub loop-left-preserved : goal.loop-left-preserved
loop-left-preserved g c =
    let within : c.loop-left.next % 4096 + c.min-here.result ≤ 4096 = omega (arith, c.min-here.ensures) in
    let some : c.min-here.result ≤ c.loop-left.left = omega (arith, c.min-here.ensures) in
    c.loop-left.invariant ∙ allows_all_rest c.args.self.now c.loop-left.next c.loop-left.left c.min-here.result c.args.what (sym c.allows.ensures ∙ c.if-not-allows.false) within some

pub returns : goal.returns
returns g c =
    let none : c.loop-left.left ≡ 0 = omega arith in
    sym (c.loop-left.invariant ∙ ap (λ n. allows_all c.args.self.now c.loop-left.next n c.args.what) none ∙ allows_all-zero c.args.self.now c.loop-left.next c.args.what)
