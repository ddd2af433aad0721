use Rattle.std.proofs.Common.{◌≡◌, ◌+◌, ◌*◌, ◌<◌, ◌≤◌, ℕ, List, length, take}
use Rattle.elf_read.specs.Headers.{table_entries}
use Rattle.elf_read.specs.declared.headers.ProgramHeader.{ProgramHeader}
use Rattle.elf_read.proofs.table.read_table.Given as goal

-- the first k program headers are read, and they are in the file
pub record ReadSoFar (file : List ℕ) (start : ℕ) (table : List ProgramHeader) (k : ℕ) : Type 0 where
  pub read : take k table ≡ table_entries file start k
  pub inside : 0 < k → start + 56 * k ≤ length file

abbrev pub invariant-loop-k : goal.invariant-loop-k
invariant-loop-k l = ReadSoFar l.file l.start l.table l.k
