use Rattle.std.proofs.Common.{◌≡◌, ◌<◌, ◌∙◌, sym, ap, take, drop, length, nat_eq, arith}
use Rattle.std.specs.Prelude.{position}
use Rattle.rv_mem.specs.Page.{zero_bytes}
use Rattle.rv_mem.proofs.PageLemmas.{length-zero_bytes}
use Rattle.rv_mem.proofs.SharedLemmas.{zeros_in_page, first_zero}
use Rattle.rv_mem.proofs.shared.Shared.zero_in.Goals as goal

pub returns-in-None-clause-full : goal.returns-in-None-clause-full
returns-in-None-clause-full c =
    let zeros : zero_bytes ≡ c.args.self.now = rw c.in-None.is at c.self.view_is in
    ap length (sym zeros) ∙ length-zero_bytes

pub returns-in-None-2-clause-found : goal.returns-in-None-2-clause-found
returns-in-None-2-clause-found c =
    let zeros : zero_bytes ≡ c.args.self.now = rw c.in-None-2.is at c.self.view_is in
    let some : 0 < c.args.count = omega (arith, c.if-count-eq0.false) in
    sym (ap (λ bs. position (λ b. nat_eq b 0) (take c.args.count (drop c.args.offset bs))) (sym zeros)
    ∙ ap (position (λ b. nat_eq b 0)) (zeros_in_page c.args.offset c.args.count c.requires)
    ∙ first_zero c.args.count some)

pub returns-in-None-2-clause-full : goal.returns-in-None-2-clause-full
returns-in-None-2-clause-full c =
    let zeros : zero_bytes ≡ c.args.self.now = rw c.in-None-2.is at c.self.view_is in
    ap length (sym zeros) ∙ length-zero_bytes
