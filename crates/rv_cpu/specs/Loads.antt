-- The loads: how many bytes each reads, and what it makes of their number.
use Rattle.std.specs.Prelude.{ℕ}
use Rattle.rv_cpu.specs.declared.load.Load.{Load}
use Rattle.rv_cpu.specs.declared.load.Load.TheVariants.{Byte, Half, Word, Double, ByteUnsigned, HalfUnsigned, WordUnsigned}
use Rattle.rv_cpu.specs.Words.{sign_extended_byte, sign_extended_half, sign_extended}

abbrev pub size : Load → ℕ
size Byte = 1
size Half = 2
size Word = 4
size Double = 8
size ByteUnsigned = 1
size HalfUnsigned = 2
size WordUnsigned = 4

abbrev pub extended : Load → ℕ → ℕ
extended Byte n = sign_extended_byte n
extended Half n = sign_extended_half n
extended Word n = sign_extended n
extended Double n = n
extended ByteUnsigned n = n
extended HalfUnsigned n = n
extended WordUnsigned n = n
