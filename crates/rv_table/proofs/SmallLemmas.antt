-- Immediates fit 32 bits.
use Rattle.std.proofs.Common.{◌<◌, ℤ, pos, negsuc, arith}
use Rattle.rv_table.specs.Encoding.{FitsWidth, IsBelow}

pub short_fits : (imm : ℤ) → FitsWidth 12 imm → FitsWidth 32 imm
short_fits (pos n) low = omega (arith, low)
short_fits (negsuc n) low = omega (arith, low)

pub near_fits : (imm : ℤ) → FitsWidth 13 imm → FitsWidth 32 imm
near_fits (pos n) low = omega (arith, low)
near_fits (negsuc n) low = omega (arith, low)

pub far_fits : (imm : ℤ) → FitsWidth 21 imm → FitsWidth 32 imm
far_fits (pos n) low = omega (arith, low)
far_fits (negsuc n) low = omega (arith, low)

pub amount_fits : (imm : ℤ) → IsBelow 64 imm → FitsWidth 32 imm
amount_fits (pos n) low = omega (arith, low)
amount_fits (negsuc n) low = absurd low

pub word_amount_fits : (imm : ℤ) → IsBelow 32 imm → FitsWidth 32 imm
word_amount_fits (pos n) low = omega (arith, low)
word_amount_fits (negsuc n) low = absurd low
