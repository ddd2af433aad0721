-- Numbers among arguments and answers that have a sign.
use Rattle.std.specs.Prelude.{ℕ, ◌^◌, nat_lt, ℤ, pos, negsuc, Option, Some, None, if◌then◌else◌}

-- a negative answer is an error. No call answers a descriptor of more than 32 bits
abbrev pub made_number : ℤ → Option ℕ
made_number (pos n) = if nat_lt n (2 ^ 32) then Some n else None
made_number (negsuc n) = None

-- how many bytes a size asks for
abbrev pub count_of : ℤ → ℕ
count_of (pos n) = n
count_of (negsuc n) = 0
