use Rattle.std.specs.FinMap as map
use Rattle.std.proofs.Common.{◌≡◌, ◌/◌, ap, arith}
use Rattle.rv_mem.specs.Pages.{unmapped}
use Rattle.rv_mem.proofs.ChangeLemmas.{len-unmapped-le}
use Rattle.rv_mem.proofs.SpaceLemmas.{IsPlaced-unmapped, IsWhole-unmapped}
use Rattle.rv_mem.proofs.ByteLemmas.{IsOfBytes-unmapped}
use Rattle.rv_mem.proofs.space.Space.unmap.Goals as goal

pub invariant_of-self : goal.invariant_of-self
invariant_of-self g c =
    rw c.unmap_placed.ensures (
      IsPlaced-unmapped c.self.inside.pages (c.args.at / 4096) _ c.self.invariant.0,
      omega (arith, c.self.invariant.1, len-unmapped-le c.self.inside.pages (c.args.at / 4096) c.from.result),
      IsWhole-unmapped c.self.inside.pages (c.args.at / 4096) c.from.result c.self.invariant.2,
      IsOfBytes-unmapped c.self.inside.pages (c.args.at / 4096) c.from.result c.self.invariant.3,
    )

pub overflow_sub-before : goal.overflow_sub-before
overflow_sub-before g c =
    let before : map.len c.self.inside.pages ≡ map.len c.args.self.now.pages = ap (λ s. map.len s.pages) c.self.view_is in
    let after : map.len c.unmap_placed.new.self ≡ map.len (unmapped c.self.inside.pages (c.args.at / 4096) c.from.result) = ap map.len c.unmap_placed.ensures in
    omega (arith, before, after, c.pages.ensures.count, c.pages-before.ensures.count, len-unmapped-le c.self.inside.pages (c.args.at / 4096) c.from.result)

pub returns-clause-room : goal.returns-clause-room
returns-clause-room g c =
    let before : map.len c.self.inside.pages ≡ map.len c.args.self.now.pages = ap (λ s. map.len s.pages) c.self.view_is in
    let after : map.len c.unmap_placed.new.self ≡ map.len (unmapped c.self.inside.pages (c.args.at / 4096) c.from.result) = ap map.len c.unmap_placed.ensures in
    omega (arith, before, after, c.pages.ensures.count, c.pages-before.ensures.count, c.remove.ensures, len-unmapped-le c.self.inside.pages (c.args.at / 4096) c.from.result)
