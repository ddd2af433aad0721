-- The arguments of a call: the number in a7, the arguments in a0 to a5 (syscall(2) on RISC-V).
use Rattle.std.specs.Prelude.{ℕ, ◌+◌, ◌%◌, ◌^◌, ◌==◌, Bool, true, false, nat_lt, nat_le, ℤ, slice_index, if◌then◌else◌}
use Rattle.std.specs.Int.{cast_signed, w32, w64}
use Rattle.std.specs.Int.RustNames.{bit_and}
use Rattle.rv_mem.specs.pr_base.Page.{page_size}
use Rattle.rv_mem.specs.declared.regs.Regs.{Regs}

-- the number is the whole of a7
abbrev pub number : Regs → ℕ
number regs = slice_index regs.x 17

-- argument k of 64 bits
abbrev pub long : Regs → ℕ → ℕ
long regs k = slice_index regs.x (10 + k)

-- an argument of 64 bits with a sign
abbrev pub signed_long : Regs → ℕ → ℤ
signed_long regs k = cast_signed w64 (long regs k)

-- an argument of 32 bits: the low half of its register
abbrev pub word : Regs → ℕ → ℕ
word regs k = long regs k % 2 ^ 32

-- an argument of 32 bits with a sign
abbrev pub int : Regs → ℕ → ℤ
int regs k = cast_signed w32 (word regs k)

-- whether flags have a bit other than the known ones
abbrev pub has_other : ℕ → ℕ → Bool
has_other flags known = if bit_and flags known == flags then false else true

-- whether flags have all of these bits
abbrev pub has : ℕ → ℕ → Bool
has flags bits = bit_and flags bits == bits

-- whether an address isn't that of a page
abbrev pub is_unaligned : ℕ → Bool
is_unaligned a = nat_lt 0 (a % page_size)

-- whether a number of 64 bits is negative, read with its sign
abbrev pub is_negative : ℕ → Bool
is_negative n = nat_le (2 ^ 63) n
