use Rattle.std.proofs.Common.{◌≡◌, ◌++◌, drop}
use Rattle.elf_load.specs.FirstStack.{pair_words, word_bytes}
use Rattle.elf_load.proofs.stack.push_pairs.Given as goal

abbrev pub invariant-loop-pair : goal.invariant-loop-pair
invariant-loop-pair l = l.bytes ++ word_bytes (pair_words (drop l.pair-index l.pairs)) ≡ l.fn.bytes ++ word_bytes (pair_words l.pairs)
