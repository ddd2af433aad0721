use Rattle.std.proofs.Common.{◌≡◌, ◌+◌, drop}
use Rattle.rv_asm.specs.Program.{total}
use Rattle.rv_asm.specs.Assembly.{first_far}
use Rattle.rv_asm.proofs.assembly.first_far.Given as goal

-- what is left to look through gives what all gives, and is as many bytes as are left
abbrev pub invariant-loop-item : goal.invariant-loop-item
invariant-loop-item l = record {
  same : first_far l.places l.at (drop l.item-index l.items) ≡ first_far l.places 0 l.items;
  counted : l.at + total (drop l.item-index l.items) ≡ total l.items;
}
