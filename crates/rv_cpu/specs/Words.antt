-- The arithmetic of the instructions, in whole numbers: registers are numbers below 2 ^ 64, and a
-- result is taken modulo 2 ^ 64. An operation on words works on the lower 32 bits and extends its
-- result by the sign bit.
use Rattle.std.specs.Prelude.{ℕ, ◌+◌, ◌-◌, ◌*◌, ◌/◌, ◌%◌, ◌^◌, ◌==◌, nat_lt, int_lt, Bool, if◌then◌else◌, ℤ, pos, ◌-ℤ◌, ◌*ℤ◌, unsigned_abs, int_div, int_rem, bit_and, bit_or, bit_xor}
use Rattle.std.specs.Int.{cast_signed, w64, w32, w16, w8, int_rem_euclid, int_div_euclid}

-- a whole number modulo 2 ^ 64, and modulo 2 ^ 32
abbrev pub wrapped : ℤ → ℕ
wrapped z = unsigned_abs (int_rem_euclid z (pos (2 ^ 64)))

abbrev pub wrapped_word : ℤ → ℕ
wrapped_word z = unsigned_abs (int_rem_euclid z (pos (2 ^ 32)))

-- the lower 32 bits
abbrev pub low_word : ℕ → ℕ
low_word a = a % 2 ^ 32

-- a register and its lower 32 bits, read in two's complement
abbrev pub signed : ℕ → ℤ
signed a = cast_signed w64 a

abbrev pub signed_word : ℕ → ℤ
signed_word a = cast_signed w32 (low_word a)

-- the lower 32 bits, their sign bit repeated above
abbrev pub sign_extended : ℕ → ℕ
sign_extended a = wrapped (signed_word a)

-- a byte and a half word, their sign bits repeated above
abbrev pub sign_extended_byte : ℕ → ℕ
sign_extended_byte n = wrapped (cast_signed w8 n)

abbrev pub sign_extended_half : ℕ → ℕ
sign_extended_half n = wrapped (cast_signed w16 n)

-- 1 where a test is met, and 0 where it isn't
abbrev pub flag : Bool → ℕ
flag test = if test then 1 else 0

-- ---- ADD, SUB and the comparisons

abbrev pub sum : ℕ → ℕ → ℕ
sum a b = (a + b) % 2 ^ 64

abbrev pub difference : ℕ → ℕ → ℕ
difference a b = wrapped (pos a -ℤ pos b)

abbrev pub is_less : ℕ → ℕ → Bool
is_less a b = int_lt (signed a) (signed b)

abbrev pub is_less_unsigned : ℕ → ℕ → Bool
is_less_unsigned a b = nat_lt a b

-- ---- shifts, by the lower 6 bits of the amount. To the right with the sign is the quotient rounded down

abbrev pub shifted_left : ℕ → ℕ → ℕ
shifted_left a amount = a * 2 ^ (amount % 64) % 2 ^ 64

abbrev pub shifted_right : ℕ → ℕ → ℕ
shifted_right a amount = a / 2 ^ (amount % 64)

abbrev pub shifted_right_signed : ℕ → ℕ → ℕ
shifted_right_signed a amount = wrapped (int_div_euclid (signed a) (pos (2 ^ (amount % 64))))

-- ---- MUL gives the lower 64 bits of the product, MULH, MULHSU and MULHU the upper 64: of two signed
-- numbers, of a signed by an unsigned one, and of two unsigned ones

abbrev pub product : ℕ → ℕ → ℕ
product a b = a * b % 2 ^ 64

abbrev pub high_half : ℤ → ℤ → ℤ
high_half x y = int_div_euclid (x *ℤ y) (pos (2 ^ 64))

abbrev pub high_product : ℕ → ℕ → ℕ
high_product a b = wrapped (high_half (signed a) (signed b))

abbrev pub high_product_mixed : ℕ → ℕ → ℕ
high_product_mixed a b = wrapped (high_half (signed a) (pos b))

abbrev pub high_product_unsigned : ℕ → ℕ → ℕ
high_product_unsigned a b = a * b / 2 ^ 64

-- ---- division rounds towards zero, and the remainder has the sign of the dividend. Division by zero
-- gives all ones, and the dividend as the remainder. The least number by -1 gives itself, modulo 2 ^ 64

abbrev pub quotient : ℕ → ℕ → ℕ
quotient a b = if b == 0 then 2 ^ 64 - 1 else wrapped (int_div (signed a) (signed b))

abbrev pub quotient_unsigned : ℕ → ℕ → ℕ
quotient_unsigned a b = if b == 0 then 2 ^ 64 - 1 else a / b

abbrev pub remainder : ℕ → ℕ → ℕ
remainder a b = if b == 0 then a else wrapped (int_rem (signed a) (signed b))

abbrev pub remainder_unsigned : ℕ → ℕ → ℕ
remainder_unsigned a b = if b == 0 then a else a % b

-- ---- the bits

abbrev pub both : ℕ → ℕ → ℕ
both a b = bit_and a b

abbrev pub either : ℕ → ℕ → ℕ
either a b = bit_or a b

abbrev pub exactly_one : ℕ → ℕ → ℕ
exactly_one a b = bit_xor a b

-- ---- words: shifts by the lower 5 bits of the amount

abbrev pub word_sum : ℕ → ℕ → ℕ
word_sum a b = sign_extended (a + b)

abbrev pub word_difference : ℕ → ℕ → ℕ
word_difference a b = sign_extended (wrapped_word (pos a -ℤ pos b))

abbrev pub word_shifted_left : ℕ → ℕ → ℕ
word_shifted_left a amount = sign_extended (low_word a * 2 ^ (amount % 32))

abbrev pub word_shifted_right : ℕ → ℕ → ℕ
word_shifted_right a amount = sign_extended (low_word a / 2 ^ (amount % 32))

abbrev pub word_shifted_right_signed : ℕ → ℕ → ℕ
word_shifted_right_signed a amount = wrapped (int_div_euclid (signed_word a) (pos (2 ^ (amount % 32))))

abbrev pub word_product : ℕ → ℕ → ℕ
word_product a b = sign_extended (a * b)

abbrev pub word_quotient : ℕ → ℕ → ℕ
word_quotient a b =
    if low_word b == 0 then 2 ^ 64 - 1 else sign_extended (wrapped_word (int_div (signed_word a) (signed_word b)))

abbrev pub word_quotient_unsigned : ℕ → ℕ → ℕ
word_quotient_unsigned a b = if low_word b == 0 then 2 ^ 64 - 1 else sign_extended (low_word a / low_word b)

abbrev pub word_remainder : ℕ → ℕ → ℕ
word_remainder a b =
    if low_word b == 0 then sign_extended a else wrapped (int_rem (signed_word a) (signed_word b))

abbrev pub word_remainder_unsigned : ℕ → ℕ → ℕ
word_remainder_unsigned a b =
    if low_word b == 0 then sign_extended a else sign_extended (low_word a % low_word b)

-- ---- the lesser and the greater of two numbers

abbrev pub least : ℕ → ℕ → ℕ
least a b = if is_less a b then a else b

abbrev pub greatest : ℕ → ℕ → ℕ
greatest a b = if is_less a b then b else a

abbrev pub least_unsigned : ℕ → ℕ → ℕ
least_unsigned a b = if is_less_unsigned a b then a else b

abbrev pub greatest_unsigned : ℕ → ℕ → ℕ
greatest_unsigned a b = if is_less_unsigned a b then b else a

abbrev pub word_least : ℕ → ℕ → ℕ
word_least a b = least (sign_extended a) (sign_extended b)

abbrev pub word_greatest : ℕ → ℕ → ℕ
word_greatest a b = greatest (sign_extended a) (sign_extended b)

abbrev pub word_least_unsigned : ℕ → ℕ → ℕ
word_least_unsigned a b = least_unsigned (low_word a) (low_word b)

abbrev pub word_greatest_unsigned : ℕ → ℕ → ℕ
word_greatest_unsigned a b = greatest_unsigned (low_word a) (low_word b)
