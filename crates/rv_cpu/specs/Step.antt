-- What each instruction does, as the RISC-V unprivileged specification has it: a tree of actions on
-- the memory, which gives what happened, the registers and the reservation afterwards.
use Rattle.std.specs.Prelude.{◌≡◌, ℕ, ◌*◌, ◌/◌, ◌%◌, ◌==◌, ◌<◌, ◌&&◌, not, Bool, true, false, List, [], ◌∷◌, slice_index, slice_set, Option, Some, None, ℤ, if◌then◌else◌}
use Rattle.std.specs.Int.{bytes_low_first}
use Rattle.rv_mem.specs.pr_base.Fields.{little_endian}
use Rattle.rv_mem.specs.declared.regs.Regs.{Regs}
use Rattle.rv_mem.specs.declared.rights.Use.TheVariants.{Read, Write, Execute}
use Rattle.rv_mem.specs.Memory.{Memory}
use Rattle.rv_mem.specs.Actions.{Action, Done, WriteBytes, CarriedOut, read_if_allowed, write_if_allowed}
use Rattle.rv_mem.specs.rv_table.Rows.{decoded}
use Rattle.rv_mem.specs.rv_table.declared.instr.Instr.{Instr}
use Rattle.rv_mem.specs.rv_table.declared.instr.Instr.TheVariants.{Lb, Lh, Lw, Ld, Lbu, Lhu, Lwu, Fence, Addi, Slti, Sltiu, Xori, Ori, Andi, Slli, Srli, Srai, Auipc, Addiw, Slliw, Srliw, Sraiw, Sb, Sh, Sw, Sd, Add, Sub, Sll, Slt, Sltu, Xor, Srl, Sra, Or, And, Mul, Mulh, Mulhsu, Mulhu, Div, Divu, Rem, Remu, Lui, Addw, Subw, Sllw, Srlw, Sraw, Mulw, Divw, Divuw, Remw, Remuw, Beq, Bne, Blt, Bge, Bltu, Bgeu, Jalr, Jal, Ecall, Ebreak, LrW, LrD, ScW, ScD, AmoswapW, AmoswapD, AmoaddW, AmoaddD, AmoxorW, AmoxorD, AmoandW, AmoandD, AmoorW, AmoorD, AmominW, AmominD, AmomaxW, AmomaxD, AmominuW, AmominuD, AmomaxuW, AmomaxuD}
use Rattle.rv_cpu.specs.declared.event.Event.{Event}
use Rattle.rv_cpu.specs.declared.event.Event.TheVariants.{Next, Call, Killed}
use Rattle.rv_cpu.specs.declared.reservation.Held.{Held}
use Rattle.rv_cpu.specs.Words.{wrapped, sign_extended_byte, sign_extended_half, sign_extended, flag, sum, difference, is_less, is_less_unsigned, shifted_left, shifted_right, shifted_right_signed, product, high_product, high_product_mixed, high_product_unsigned, quotient, quotient_unsigned, remainder, remainder_unsigned, both, either, exactly_one, word_sum, word_difference, word_shifted_left, word_shifted_right, word_shifted_right_signed, word_product, word_quotient, word_quotient_unsigned, word_remainder, word_remainder_unsigned, least, greatest, least_unsigned, greatest_unsigned, word_least, word_greatest, word_least_unsigned, word_greatest_unsigned}

-- ---- registers

-- register 0 reads as zero, and a write to it does nothing
abbrev pub register : Regs → ℕ → ℕ
register s r = if r == 0 then 0 else slice_index s.x r

abbrev pub with_register : Regs → ℕ → ℕ → Regs
with_register s r value = if r == 0 then s else record s { x = slice_set s.x r value }

-- on to another address, and on to the next instruction
abbrev pub at_pc : ℕ → Regs → Regs
at_pc pc s = record s { pc = pc }

abbrev pub moved_on : Regs → Regs
moved_on s = at_pc (sum s.pc 4) s

-- a register and an immediate, added
abbrev pub address : Regs → ℕ → ℤ → ℕ
address s r imm = sum (register s r) (wrapped imm)

-- ---- how an instruction ends

-- what happened, and the registers afterwards
pub record Ended : Type 0 where
  pub event : Event
  pub regs : Regs

-- the same, and the reservation afterwards
pub record Stepped : Type 0 where
  pub event : Event
  pub regs : Regs
  pub held : Option Held

-- an instruction that is carried out ends with this event, and leaves these registers, this reservation
-- and this memory
pub record Leaves (done : CarriedOut Stepped) (e : Event) (s : Regs) (h : Option Held) (m : Memory) : Type 0 where
  pub event : e ≡ done.reply.event
  pub regs : s ≡ done.reply.regs
  pub held : h ≡ done.reply.held
  pub memory : m ≡ done.memory

-- a signal that kills has a number below 128
abbrev pub IsLowSignal : Event → Type 0
IsLowSignal Next = Unit {0}
IsLowSignal Call = Unit {0}
IsLowSignal (Killed signal) = signal < 128

-- a fact of an instruction that is a call or kills
abbrev pub IfStopped : Event → Type 0 → Type 0
IfStopped Next fact = Unit {0}
IfStopped Call fact = fact
IfStopped (Killed signal) fact = fact

-- the reservation afterwards, of an instruction that ends so
abbrev pub holds : Option Held → Ended → Action Stepped
holds held e = Done (record { event = e.event; regs = e.regs; held = held })

abbrev pub ends : Event → Regs → Ended
ends event s = record { event = event; regs = s }

-- a killing instruction leaves the registers as they are
abbrev pub kills : ℕ → Regs → Ended
kills signal s = ends (Killed signal) s

-- a register takes a value
abbrev pub gives : Regs → ℕ → ℕ → Ended
gives s rd value = ends Next (moved_on (with_register s rd value))

-- a jump gives its register the address of the next instruction. One to an address that isn't
-- divisible by 4 kills by SIGBUS
abbrev pub jumps : Regs → ℕ → ℕ → Ended
jumps s rd target =
    if target % 4 == 0 then ends Next (at_pc target (with_register s rd (sum s.pc 4))) else kills 7 s

-- a branch that isn't taken tests no address
abbrev pub branches : Regs → Bool → ℤ → Ended
branches s taken imm =
    if taken
    then (if sum s.pc (wrapped imm) % 4 == 0 then ends Next (at_pc (sum s.pc (wrapped imm)) s) else kills 7 s)
    else ends Next (moved_on s)

-- a load gives a register what it makes of the number that n bytes hold, the lowest of them first. Where
-- one of them isn't readable it kills by SIGSEGV
abbrev pub loads : Regs → Option Held → ℕ → ℕ → ℕ → (ℕ → ℕ) → Action Stepped
loads s held rd at n extend =
    read_if_allowed at n (Read ∷ []) (holds held (kills 11 s)) (λ bytes. holds held (gives s rd (extend (little_endian bytes))))

-- the n lowest bytes of a register, the lowest of them first
abbrev pub lowest_bytes : ℕ → ℕ → List ℕ
lowest_bytes n value = bytes_low_first 0 n value

-- a store writes bytes. Where one of them isn't writable it kills by SIGSEGV, and none is written
abbrev pub stores : Regs → Option Held → ℕ → List ℕ → Action Stepped
stores s held at bytes = write_if_allowed at bytes (holds held (kills 11 s)) (holds held (ends Next (moved_on s)))

-- ---- atomic instructions, on a doubleword where they are wide, and else on a word

abbrev pub width : Bool → ℕ
width wide = if wide then 8 else 4

-- what a register gets of the number that the bytes hold
abbrev pub widened : Bool → ℕ → ℕ
widened wide n = if wide then n else sign_extended n

-- an address that isn't divisible by the width kills by SIGBUS, whatever may be done there
abbrev pub if_aligned : Regs → Option Held → Bool → ℕ → Action Stepped → Action Stepped
if_aligned s held wide at next = if at % width wide == 0 then next else holds held (kills 7 s)

-- LR is a load that reserves its bytes
abbrev pub reserves : Regs → Option Held → Bool → ℕ → ℕ → Action Stepped
reserves s held wide rd at =
    if_aligned s held wide at (
    read_if_allowed at (width wide) (Read ∷ []) (holds held (kills 11 s))
    (λ bytes. holds (Some (record { at = at; wide = wide })) (gives s rd (widened wide (little_endian bytes))))
    )

-- whether these very bytes are reserved
abbrev pub is_held : Option Held → Bool → ℕ → Bool
is_held None wide at = false
is_held (Some held) wide at = held.at == at && (if wide then held.wide else not held.wide)

-- SC stores where its bytes are reserved, and gives 0; elsewhere it looks at no byte and gives 1.
-- Nothing is reserved afterwards
abbrev pub stores_if_held : Regs → Option Held → Bool → ℕ → ℕ → List ℕ → Action Stepped
stores_if_held s held wide rd at bytes =
    if_aligned s held wide at (
    if is_held held wide at
    then write_if_allowed at bytes (holds held (kills 11 s)) (holds None (gives s rd 0))
    else holds None (gives s rd 1)
    )

-- an AMO gives the number that the bytes hold, and stores in them what it makes of it and of a register.
-- Where one of them isn't readable or isn't writable it kills by SIGSEGV
abbrev pub replaces : Regs → Option Held → Bool → ℕ → ℕ → ℕ → (ℕ → ℕ → ℕ) → Action Stepped
replaces s held wide rd at value combine =
    if_aligned s held wide at (
    read_if_allowed at (width wide) (Read ∷ Write ∷ []) (holds held (kills 11 s))
    (
    λ bytes. let old = little_endian bytes in
    WriteBytes at (lowest_bytes (width wide) (combine old value)) (holds held (gives s rd (widened wide old)))
    )
    )

-- ---- the instructions

-- what each does to registers, memory and the reservation h. An immediate counts as the word that it
-- stands for; JALR clears bit 0 of its target, FENCE and the order of an atomic instruction do nothing,
-- and EBREAK kills by SIGTRAP
abbrev pub executed : Regs → Option Held → Instr → Action Stepped
executed s h (Lb rd rs1 imm) = loads s h rd (address s rs1 imm) 1 sign_extended_byte
executed s h (Lh rd rs1 imm) = loads s h rd (address s rs1 imm) 2 sign_extended_half
executed s h (Lw rd rs1 imm) = loads s h rd (address s rs1 imm) 4 sign_extended
executed s h (Ld rd rs1 imm) = loads s h rd (address s rs1 imm) 8 (λ n. n)
executed s h (Lbu rd rs1 imm) = loads s h rd (address s rs1 imm) 1 (λ n. n)
executed s h (Lhu rd rs1 imm) = loads s h rd (address s rs1 imm) 2 (λ n. n)
executed s h (Lwu rd rs1 imm) = loads s h rd (address s rs1 imm) 4 (λ n. n)
executed s h (Sb rs1 rs2 imm) = stores s h (address s rs1 imm) (lowest_bytes 1 (register s rs2))
executed s h (Sh rs1 rs2 imm) = stores s h (address s rs1 imm) (lowest_bytes 2 (register s rs2))
executed s h (Sw rs1 rs2 imm) = stores s h (address s rs1 imm) (lowest_bytes 4 (register s rs2))
executed s h (Sd rs1 rs2 imm) = stores s h (address s rs1 imm) (lowest_bytes 8 (register s rs2))
executed s h (Beq rs1 rs2 imm) = holds h (branches s (register s rs1 == register s rs2) imm)
executed s h (Bne rs1 rs2 imm) = holds h (branches s (not (register s rs1 == register s rs2)) imm)
executed s h (Blt rs1 rs2 imm) = holds h (branches s (is_less (register s rs1) (register s rs2)) imm)
executed s h (Bge rs1 rs2 imm) = holds h (branches s (not (is_less (register s rs1) (register s rs2))) imm)
executed s h (Bltu rs1 rs2 imm) = holds h (branches s (is_less_unsigned (register s rs1) (register s rs2)) imm)
executed s h (Bgeu rs1 rs2 imm) = holds h (branches s (not (is_less_unsigned (register s rs1) (register s rs2))) imm)
executed s h (Jal rd imm) = holds h (jumps s rd (sum s.pc (wrapped imm)))
executed s h (Jalr rd rs1 imm) = holds h (jumps s rd (address s rs1 imm / 2 * 2))
executed s h Ecall = holds h (ends Call s)
executed s h Ebreak = holds h (kills 5 s)
executed s h Fence = holds h (ends Next (moved_on s))
executed s h (Lui rd imm) = holds h (gives s rd (wrapped imm))
executed s h (Auipc rd imm) = holds h (gives s rd (sum s.pc (wrapped imm)))
executed s h (Addi rd rs1 imm) = holds h (gives s rd (sum (register s rs1) (wrapped imm)))
executed s h (Slti rd rs1 imm) = holds h (gives s rd (flag (is_less (register s rs1) (wrapped imm))))
executed s h (Sltiu rd rs1 imm) = holds h (gives s rd (flag (is_less_unsigned (register s rs1) (wrapped imm))))
executed s h (Xori rd rs1 imm) = holds h (gives s rd (exactly_one (register s rs1) (wrapped imm)))
executed s h (Ori rd rs1 imm) = holds h (gives s rd (either (register s rs1) (wrapped imm)))
executed s h (Andi rd rs1 imm) = holds h (gives s rd (both (register s rs1) (wrapped imm)))
executed s h (Slli rd rs1 imm) = holds h (gives s rd (shifted_left (register s rs1) (wrapped imm)))
executed s h (Srli rd rs1 imm) = holds h (gives s rd (shifted_right (register s rs1) (wrapped imm)))
executed s h (Srai rd rs1 imm) = holds h (gives s rd (shifted_right_signed (register s rs1) (wrapped imm)))
executed s h (Addiw rd rs1 imm) = holds h (gives s rd (word_sum (register s rs1) (wrapped imm)))
executed s h (Slliw rd rs1 imm) = holds h (gives s rd (word_shifted_left (register s rs1) (wrapped imm)))
executed s h (Srliw rd rs1 imm) = holds h (gives s rd (word_shifted_right (register s rs1) (wrapped imm)))
executed s h (Sraiw rd rs1 imm) = holds h (gives s rd (word_shifted_right_signed (register s rs1) (wrapped imm)))
executed s h (Add rd rs1 rs2) = holds h (gives s rd (sum (register s rs1) (register s rs2)))
executed s h (Sub rd rs1 rs2) = holds h (gives s rd (difference (register s rs1) (register s rs2)))
executed s h (Sll rd rs1 rs2) = holds h (gives s rd (shifted_left (register s rs1) (register s rs2)))
executed s h (Slt rd rs1 rs2) = holds h (gives s rd (flag (is_less (register s rs1) (register s rs2))))
executed s h (Sltu rd rs1 rs2) = holds h (gives s rd (flag (is_less_unsigned (register s rs1) (register s rs2))))
executed s h (Xor rd rs1 rs2) = holds h (gives s rd (exactly_one (register s rs1) (register s rs2)))
executed s h (Srl rd rs1 rs2) = holds h (gives s rd (shifted_right (register s rs1) (register s rs2)))
executed s h (Sra rd rs1 rs2) = holds h (gives s rd (shifted_right_signed (register s rs1) (register s rs2)))
executed s h (Or rd rs1 rs2) = holds h (gives s rd (either (register s rs1) (register s rs2)))
executed s h (And rd rs1 rs2) = holds h (gives s rd (both (register s rs1) (register s rs2)))
executed s h (Mul rd rs1 rs2) = holds h (gives s rd (product (register s rs1) (register s rs2)))
executed s h (Mulh rd rs1 rs2) = holds h (gives s rd (high_product (register s rs1) (register s rs2)))
executed s h (Mulhsu rd rs1 rs2) = holds h (gives s rd (high_product_mixed (register s rs1) (register s rs2)))
executed s h (Mulhu rd rs1 rs2) = holds h (gives s rd (high_product_unsigned (register s rs1) (register s rs2)))
executed s h (Div rd rs1 rs2) = holds h (gives s rd (quotient (register s rs1) (register s rs2)))
executed s h (Divu rd rs1 rs2) = holds h (gives s rd (quotient_unsigned (register s rs1) (register s rs2)))
executed s h (Rem rd rs1 rs2) = holds h (gives s rd (remainder (register s rs1) (register s rs2)))
executed s h (Remu rd rs1 rs2) = holds h (gives s rd (remainder_unsigned (register s rs1) (register s rs2)))
executed s h (Addw rd rs1 rs2) = holds h (gives s rd (word_sum (register s rs1) (register s rs2)))
executed s h (Subw rd rs1 rs2) = holds h (gives s rd (word_difference (register s rs1) (register s rs2)))
executed s h (Sllw rd rs1 rs2) = holds h (gives s rd (word_shifted_left (register s rs1) (register s rs2)))
executed s h (Srlw rd rs1 rs2) = holds h (gives s rd (word_shifted_right (register s rs1) (register s rs2)))
executed s h (Sraw rd rs1 rs2) = holds h (gives s rd (word_shifted_right_signed (register s rs1) (register s rs2)))
executed s h (Mulw rd rs1 rs2) = holds h (gives s rd (word_product (register s rs1) (register s rs2)))
executed s h (Divw rd rs1 rs2) = holds h (gives s rd (word_quotient (register s rs1) (register s rs2)))
executed s h (Divuw rd rs1 rs2) = holds h (gives s rd (word_quotient_unsigned (register s rs1) (register s rs2)))
executed s h (Remw rd rs1 rs2) = holds h (gives s rd (word_remainder (register s rs1) (register s rs2)))
executed s h (Remuw rd rs1 rs2) = holds h (gives s rd (word_remainder_unsigned (register s rs1) (register s rs2)))
executed s h (LrW rd rs1 order) = reserves s h false rd (register s rs1)
executed s h (LrD rd rs1 order) = reserves s h true rd (register s rs1)
executed s h (ScW rd rs1 rs2 order) = stores_if_held s h false rd (register s rs1) (lowest_bytes 4 (register s rs2))
executed s h (ScD rd rs1 rs2 order) = stores_if_held s h true rd (register s rs1) (lowest_bytes 8 (register s rs2))
executed s h (AmoswapW rd rs1 rs2 order) = replaces s h false rd (register s rs1) (register s rs2) (λ old value. value)
executed s h (AmoswapD rd rs1 rs2 order) = replaces s h true rd (register s rs1) (register s rs2) (λ old value. value)
executed s h (AmoaddW rd rs1 rs2 order) = replaces s h false rd (register s rs1) (register s rs2) sum
executed s h (AmoaddD rd rs1 rs2 order) = replaces s h true rd (register s rs1) (register s rs2) sum
executed s h (AmoxorW rd rs1 rs2 order) = replaces s h false rd (register s rs1) (register s rs2) exactly_one
executed s h (AmoxorD rd rs1 rs2 order) = replaces s h true rd (register s rs1) (register s rs2) exactly_one
executed s h (AmoandW rd rs1 rs2 order) = replaces s h false rd (register s rs1) (register s rs2) both
executed s h (AmoandD rd rs1 rs2 order) = replaces s h true rd (register s rs1) (register s rs2) both
executed s h (AmoorW rd rs1 rs2 order) = replaces s h false rd (register s rs1) (register s rs2) either
executed s h (AmoorD rd rs1 rs2 order) = replaces s h true rd (register s rs1) (register s rs2) either
executed s h (AmominW rd rs1 rs2 order) = replaces s h false rd (register s rs1) (register s rs2) word_least
executed s h (AmominD rd rs1 rs2 order) = replaces s h true rd (register s rs1) (register s rs2) least
executed s h (AmomaxW rd rs1 rs2 order) = replaces s h false rd (register s rs1) (register s rs2) word_greatest
executed s h (AmomaxD rd rs1 rs2 order) = replaces s h true rd (register s rs1) (register s rs2) greatest
executed s h (AmominuW rd rs1 rs2 order) = replaces s h false rd (register s rs1) (register s rs2) word_least_unsigned
executed s h (AmominuD rd rs1 rs2 order) = replaces s h true rd (register s rs1) (register s rs2) least_unsigned
executed s h (AmomaxuW rd rs1 rs2 order) = replaces s h false rd (register s rs1) (register s rs2) word_greatest_unsigned
executed s h (AmomaxuD rd rs1 rs2 order) = replaces s h true rd (register s rs1) (register s rs2) greatest_unsigned

-- what is no instruction kills by SIGILL
abbrev pub executed_word : Regs → Option Held → Option Instr → Action Stepped
executed_word s held None = holds held (kills 4 s)
executed_word s held (Some i) = executed s held i

-- one instruction. A fetch at an address that isn't divisible by 4 kills by SIGBUS, wherever it lies,
-- and reads nothing; one of bytes that aren't executable kills by SIGSEGV
abbrev pub step : Regs → Option Held → Action Stepped
step s held =
    if s.pc % 4 == 0
    then
    read_if_allowed s.pc 4 (Execute ∷ []) (holds held (kills 11 s))
    (λ bytes. executed_word s held (decoded (little_endian bytes)))
    else holds held (kills 7 s)
