use Rattle.std.proofs.Common.{◌≡◌, ◌++◌, ◌+◌, drop, length}
use Rattle.elf_load.specs.FirstStack.{text_addresses, text_bytes, word_bytes}
use Rattle.elf_load.proofs.stack.push_addresses.Given as goal

abbrev pub invariant-loop-k : goal.invariant-loop-k
invariant-loop-k l = record {
  behind : l.next + length (text_bytes (drop l.k l.texts)) ≡ l.at + length (text_bytes l.texts);
  words : l.bytes ++ word_bytes (text_addresses l.next (drop l.k l.texts)) ≡ l.fn.bytes ++ word_bytes (text_addresses l.at l.texts);
}
