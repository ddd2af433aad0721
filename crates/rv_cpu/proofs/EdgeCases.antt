-- Rows of the manual that are easily got wrong, computed by the definitions.
use Rattle.std.proofs.Common.{◌≡◌, ◌-◌, ◌^◌, refl}
use Rattle.rv_cpu.specs.Words.{shifted_right_signed, high_product, high_product_mixed, high_product_unsigned, quotient, remainder, word_quotient, word_shifted_right_signed}

least-by-minus-one : quotient (2 ^ 63) (2 ^ 64 - 1) ≡ 2 ^ 63
least-by-minus-one = refl

least-by-minus-one-leaves-nothing : remainder (2 ^ 63) (2 ^ 64 - 1) ≡ 0
least-by-minus-one-leaves-nothing = refl

by-zero : quotient 7 0 ≡ 2 ^ 64 - 1
by-zero = refl

by-zero-leaves-the-dividend : remainder 7 0 ≡ 7
by-zero-leaves-the-dividend = refl

-- -7 by 2 is -3 and leaves -1
towards-zero : quotient (2 ^ 64 - 7) 2 ≡ 2 ^ 64 - 3
towards-zero = refl

sign-of-the-dividend : remainder (2 ^ 64 - 7) 2 ≡ 2 ^ 64 - 1
sign-of-the-dividend = refl

mixed-product : high_product_mixed (2 ^ 64 - 1) (2 ^ 64 - 1) ≡ 2 ^ 64 - 1
mixed-product = refl

signed-product : high_product (2 ^ 64 - 1) (2 ^ 64 - 1) ≡ 0
signed-product = refl

unsigned-product : high_product_unsigned (2 ^ 64 - 1) (2 ^ 64 - 1) ≡ 2 ^ 64 - 2
unsigned-product = refl

shift-by-63 : shifted_right_signed (2 ^ 63) 63 ≡ 2 ^ 64 - 1
shift-by-63 = refl

word-shift : word_shifted_right_signed (2 ^ 31) 4 ≡ 2 ^ 64 - 2 ^ 27
word-shift = refl

least-word-by-minus-one : word_quotient (2 ^ 31) (2 ^ 32 - 1) ≡ 2 ^ 64 - 2 ^ 31
least-word-by-minus-one = refl
