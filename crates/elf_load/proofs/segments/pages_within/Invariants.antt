use Rattle.std.proofs.Common.{◌≡◌, ◌+◌, drop}
use Rattle.elf_load.specs.Image.{segment_pages}
use Rattle.elf_load.proofs.segments.pages_within.Given as goal

abbrev pub invariant-loop-s : goal.invariant-loop-s
invariant-loop-s l = l.left + segment_pages l.segments ≡ l.most + segment_pages (drop l.s-index l.segments)
