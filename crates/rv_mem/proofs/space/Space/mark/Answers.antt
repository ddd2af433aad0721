use Rattle.std.specs.FinMap as map
use Rattle.std.proofs.Common.{◌-◌, arith, ◌∙◌, ap}
use Rattle.rv_mem.proofs.ChangeLemmas.{len-marked}
use Rattle.rv_mem.proofs.SpaceLemmas.{IsPlaced-marked, IsWhole-marked}
use Rattle.rv_mem.proofs.ByteLemmas.{IsOfBytes-marked}
use Rattle.rv_mem.proofs.space.Space.mark.Goals as goal

pub invariant_of-self : goal.invariant_of-self
invariant_of-self g c =
    rw c.mark_all.ensures (
      IsPlaced-marked c.self.inside.pages c.args.from (c.args.to - c.args.from) c.self.invariant.0,
      omega (arith, c.self.invariant.1, len-marked c.self.inside.pages c.args.from (c.args.to - c.args.from)),
      IsWhole-marked c.self.inside.pages c.args.from (c.args.to - c.args.from) c.self.invariant.2,
      IsOfBytes-marked c.self.inside.pages c.args.from (c.args.to - c.args.from) c.self.invariant.3,
    )

pub returns-then-this-ne0-clause-count : goal.returns-then-this-ne0-clause-count
returns-then-this-ne0-clause-count g c = ap map.len c.mark_all.ensures ∙ len-marked c.self.inside.pages c.args.from (c.args.to - c.args.from) ∙ ap (λ s. map.len s.pages) c.self.view_is
