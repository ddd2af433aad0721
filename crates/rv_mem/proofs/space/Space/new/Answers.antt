use Rattle.std.specs.FinMap as map
use Rattle.std.proofs.Common.{◌∙◌, ap, arith}
use Rattle.std.specs.Ordering.{nat_cmp}
use Rattle.rv_mem.specs.Page.{PageState}
use Rattle.rv_mem.proofs.SpaceLemmas.{IsPlaced-empty, IsWhole-empty}
use Rattle.rv_mem.proofs.ByteLemmas.{IsOfBytes-empty}
use Rattle.rv_mem.proofs.space.Space.new.Goals as goal

pub invariant_of-result : goal.invariant_of-result
invariant_of-result g c = rw c.new.ensures (IsPlaced-empty, omega (arith, map.len-empty nat_cmp PageState), IsWhole-empty, IsOfBytes-empty)

pub returns-clause-count : goal.returns-clause-count
returns-clause-count g c = ap map.len c.new.ensures ∙ map.len-empty nat_cmp PageState
