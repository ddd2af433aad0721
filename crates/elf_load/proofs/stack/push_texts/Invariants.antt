use Rattle.std.proofs.Common.{◌≡◌, ◌++◌, drop}
use Rattle.elf_load.specs.FirstStack.{text_bytes}
use Rattle.elf_load.proofs.stack.push_texts.Given as goal

abbrev pub invariant-loop-k : goal.invariant-loop-k
invariant-loop-k l = l.bytes ++ text_bytes (drop l.k l.texts) ≡ l.fn.bytes ++ text_bytes l.texts
