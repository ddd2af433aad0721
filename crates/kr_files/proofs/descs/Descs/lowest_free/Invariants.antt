use Rattle.std.proofs.Common.{◌≡◌, ◌-◌}
use Rattle.kr_files.specs.Descriptors.{first_free}
use Rattle.kr_files.proofs.descs.Descs.lowest_free.Given as goal

abbrev pub invariant-loop-fd : goal.invariant-loop-fd
invariant-loop-fd l = first_free l.self l.from (1024 - l.from) ≡ first_free l.self l.fd (1024 - l.fd)
