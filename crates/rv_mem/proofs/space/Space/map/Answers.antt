use Rattle.std.specs.FinMap as map
use Rattle.std.proofs.Common.{◌≡◌, ◌≤◌, ◌+◌, ◌/◌, ap, arith}
use Rattle.rv_mem.proofs.SpaceLemmas.{IsPlaced-mapped, IsWhole-mapped}
use Rattle.rv_mem.proofs.ByteLemmas.{IsOfBytes-mapped}
use Rattle.rv_mem.proofs.space.Space.map.Goals as goal

pub invariant_of-self-2 : goal.invariant_of-self-2
invariant_of-self-2 g c =
    let below : c.args.at / 4096 + c.from-count.result ≤ 67108863 = omega (arith, c.requires.below) in
    let before : map.len c.self.inside.pages ≡ map.len c.args.self.now.pages = ap (λ s. map.len s.pages) c.self.view_is in
    let counted = c.in-Some.ensures c.args.rights in
    rw c.in_ok-map.ensures.ok (
      IsPlaced-mapped c.self.inside.pages (c.args.at / 4096) c.from-count.result c.args.rights below c.self.invariant.0,
      omega (arith, before, counted.0, counted.1, c.min-limit.ensures, c.pages.ensures.count, c.pages.ensures.limited),
      IsWhole-mapped c.self.inside.pages (c.args.at / 4096) c.from-count.result c.args.rights c.self.invariant.2,
      IsOfBytes-mapped c.self.inside.pages (c.args.at / 4096) c.from-count.result c.args.rights c.self.invariant.3,
    )

pub invariant_of-self : goal.invariant_of-self
invariant_of-self g c = rw c.in_err-map.ensures.err c.self.invariant
