use Rattle.std.specs.FinMap as map
use Rattle.std.proofs.Common.{◌/◌, arith, ◌∙◌, ap}
use Rattle.rv_mem.proofs.ChangeLemmas.{len-protected}
use Rattle.rv_mem.proofs.SpaceLemmas.{IsPlaced-protected, IsWhole-protected}
use Rattle.rv_mem.proofs.ByteLemmas.{IsOfBytes-protected}
use Rattle.rv_mem.proofs.space.Space.protect.Goals as goal

pub invariant_of-self : goal.invariant_of-self
invariant_of-self g c =
    rw c.protect.ensures (
      IsPlaced-protected c.self.inside.pages (c.args.at / 4096) _ c.args.rights c.self.invariant.0,
      omega (arith, c.self.invariant.1, len-protected c.self.inside.pages (c.args.at / 4096) c.from-count.result c.args.rights),
      IsWhole-protected c.self.inside.pages (c.args.at / 4096) c.from-count.result c.args.rights c.self.invariant.2,
      IsOfBytes-protected c.self.inside.pages (c.args.at / 4096) c.from-count.result c.args.rights c.self.invariant.3,
    )

pub returns-clause-count : goal.returns-clause-count
returns-clause-count g c = ap map.len c.protect.ensures ∙ len-protected c.self.inside.pages (c.args.at / 4096) c.from-count.result c.args.rights ∙ ap (λ s. map.len s.pages) c.self.view_is
