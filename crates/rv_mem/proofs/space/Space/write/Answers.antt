use Rattle.std.specs.FinMap as map
use Rattle.std.proofs.Common.{◌∙◌, ap, arith}
use Rattle.rv_mem.proofs.ChangeLemmas.{len-written}
use Rattle.rv_mem.proofs.SpaceLemmas.{IsPlaced-written, IsWhole-written}
use Rattle.rv_mem.proofs.ByteLemmas.{IsOfBytes-written, known-bytes}
use Rattle.rv_mem.proofs.space.Space.write.Goals as goal

pub invariant_of-self-2 : goal.invariant_of-self-2
invariant_of-self-2 g c =
    rw c.in_ok-write_allowed.ensures.ok (
      IsPlaced-written c.self.inside.pages c.args.at c.args.bytes.now c.self.invariant.0,
      omega (arith, c.self.invariant.1, len-written c.self.inside.pages c.args.at c.args.bytes.now),
      IsWhole-written c.self.inside.pages c.args.at c.args.bytes.now c.self.invariant.2,
      IsOfBytes-written c.self.inside.pages c.args.at c.args.bytes.now (known-bytes c.args.bytes.now c.type_inv.bytes) c.self.invariant.3,
    )

pub invariant_of-self : goal.invariant_of-self
invariant_of-self g c = rw c.in_err-write_allowed.ensures.err c.self.invariant

pub returns-clause-count : goal.returns-clause-count
returns-clause-count g c = ap map.len c.in_ok-write_allowed.ensures.ok ∙ len-written c.self.inside.pages c.args.at c.args.bytes.now ∙ ap (λ s. map.len s.pages) c.self.view_is
