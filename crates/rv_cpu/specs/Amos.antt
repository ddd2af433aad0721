-- What the AMOs store.
use Rattle.std.specs.Prelude.{ℕ, Bool, if◌then◌else◌}
use Rattle.rv_cpu.specs.declared.atomic.Amo.{Amo}
use Rattle.rv_cpu.specs.declared.atomic.Amo.TheVariants.{Swap, Add, Xor, And, Or, Min, Max, MinUnsigned, MaxUnsigned}
use Rattle.rv_cpu.specs.Words.{sum, exactly_one, both, either, least, greatest, least_unsigned, greatest_unsigned, word_least, word_greatest, word_least_unsigned, word_greatest_unsigned}

-- of the number that was in memory and that of a register
abbrev pub combined : Amo → Bool → ℕ → ℕ → ℕ
combined Swap wide = λ old value. value
combined Add wide = sum
combined Xor wide = exactly_one
combined And wide = both
combined Or wide = either
combined Min wide = if wide then least else word_least
combined Max wide = if wide then greatest else word_greatest
combined MinUnsigned wide = if wide then least_unsigned else word_least_unsigned
combined MaxUnsigned wide = if wide then greatest_unsigned else word_greatest_unsigned
