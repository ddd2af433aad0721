use Rattle.std.proofs.Common.{◌≡◌, drop}
use Rattle.elf_read.specs.Rules.{disorder_from, first_disorder}
use Rattle.elf_read.proofs.rules.first_out_of_order.Given as goal

-- what is left to look through gives what all gives
abbrev pub invariant-loop-k : goal.invariant-loop-k
invariant-loop-k l = disorder_from l.k l.end (drop l.k l.headers) ≡ first_disorder l.headers
