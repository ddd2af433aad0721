use Rattle.std.proofs.Common.{subst}
use Rattle.rv_mem.specs.Memory.{Memory}
use Rattle.rv_mem.specs.Pages.{HoldsBytes, IsWhole}
use Rattle.rv_mem.proofs.ByteLemmas.{holds-bytes}
use Rattle.rv_mem.proofs.space.Space.can.Goals as goal

pub returns-clause-whole : goal.returns-clause-whole
returns-clause-whole g c = subst (λ (s : Memory). IsWhole s.pages) c.self.view_is c.self.invariant.2

pub returns-clause-bytes : goal.returns-clause-bytes
returns-clause-bytes g c = subst (λ (s : Memory). HoldsBytes s.pages) c.self.view_is (holds-bytes c.self.inside.pages c.self.invariant.3)
