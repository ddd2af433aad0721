use Rattle.std.proofs.Common.{◌≡◌, ◌+◌, drop, length}
use Rattle.elf_load.specs.FirstStack.{text_bytes}
use Rattle.elf_load.proofs.arguments.size_within.Given as goal

abbrev pub invariant-loop-k : goal.invariant-loop-k
invariant-loop-k l = l.left + length (text_bytes l.texts) ≡ l.most + length (text_bytes (drop l.k l.texts))
