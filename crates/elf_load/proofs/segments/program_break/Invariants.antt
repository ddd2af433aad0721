use Rattle.std.proofs.Common.{◌≡◌, drop}
use Rattle.elf_load.specs.Image.{break_from}
use Rattle.elf_load.proofs.segments.program_break.Given as goal

abbrev pub invariant-loop-s : goal.invariant-loop-s
invariant-loop-s l = break_from l.end (drop l.s-index l.segments) ≡ break_from 0 l.segments
