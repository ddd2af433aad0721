use Rattle.std.proofs.Common.{◌≡◌, drop}
use Rattle.rv_asm.specs.Assembly.{first_unbound}
use Rattle.rv_asm.proofs.assembly.first_unbound.Given as goal

-- what is left to look through gives what all gives
abbrev pub invariant-loop-item : goal.invariant-loop-item
invariant-loop-item l = first_unbound l.places (drop l.item-index l.items) ≡ first_unbound l.places l.items
