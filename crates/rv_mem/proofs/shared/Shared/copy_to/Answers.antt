use Rattle.std.proofs.Common.{◌≡◌, ◌∙◌, sym, ap, take, drop, length}
use Rattle.rv_mem.specs.Page.{zero_bytes}
use Rattle.rv_mem.proofs.PageLemmas.{length-zero_bytes}
use Rattle.rv_mem.proofs.SharedLemmas.{zeros_in_page}
use Rattle.rv_mem.proofs.shared.Shared.copy_to.Goals as goal

pub returns-in-None-clause-bytes : goal.returns-in-None-clause-bytes
returns-in-None-clause-bytes c =
    let zeros : zero_bytes ≡ c.args.self.now = rw c.in-None.is at c.self.view_is in
    c.fill.ensures.after (λ y e. e) ∙ sym (zeros_in_page c.args.offset (length c.args.into.now) c.requires) ∙ ap (λ bs. take (length c.args.into.now) (drop c.args.offset bs)) zeros

pub returns-in-None-clause-full : goal.returns-in-None-clause-full
returns-in-None-clause-full c =
    let zeros : zero_bytes ≡ c.args.self.now = rw c.in-None.is at c.self.view_is in
    ap length (sym zeros) ∙ length-zero_bytes
