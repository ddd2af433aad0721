use Rattle.std.proofs.Common.{◌≡◌, drop}
use Rattle.elf_read.specs.Plans.{address_in}
use Rattle.elf_read.proofs.plan.address_in.Given as goal

-- what is left to look through gives what all gives
abbrev pub invariant-loop-segment : goal.invariant-loop-segment
invariant-loop-segment l =
    address_in l.start l.size (drop l.segment-index l.segments) ≡ address_in l.start l.size l.segments
