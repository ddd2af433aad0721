-- The word of an instruction, and which instructions have one.
use Rattle.std.specs.Prelude.{◌≡◌, ℕ, ◌+◌, ◌-◌, ◌*◌, ◌%◌, ◌^◌, ◌<◌, ℤ, pos, negsuc, unsigned_abs}
use Rattle.rv_table.specs.declared.layout.Layout.{Layout}
use Rattle.rv_table.specs.declared.layout.Operands.{Operands}
use Rattle.rv_table.specs.declared.layout.Operands.TheVariants.{Register, Immediate, Store, Branch, Upper, Jump, Shift, WordShift, Fixed, Atomic, Reserve}
use Rattle.rv_table.specs.Rows.{bits}
use Rattle.rv_table.specs.declared.instr.Instr.{Instr}
use Rattle.rv_table.specs.declared.instr.Instr.TheVariants.{Lb, Lh, Lw, Ld, Lbu, Lhu, Lwu, Fence, Addi, Slti, Sltiu, Xori, Ori, Andi, Slli, Srli, Srai, Auipc, Addiw, Slliw, Srliw, Sraiw, Sb, Sh, Sw, Sd, Add, Sub, Sll, Slt, Sltu, Xor, Srl, Sra, Or, And, Mul, Mulh, Mulhsu, Mulhu, Div, Divu, Rem, Remu, Lui, Addw, Subw, Sllw, Srlw, Sraw, Mulw, Divw, Divuw, Remw, Remuw, Beq, Bne, Blt, Bge, Bltu, Bgeu, Jalr, Jal, Ecall, Ebreak, LrW, LrD, ScW, ScD, AmoswapW, AmoswapD, AmoaddW, AmoaddD, AmoxorW, AmoxorD, AmoandW, AmoandD, AmoorW, AmoorD, AmominW, AmominD, AmomaxW, AmomaxD, AmominuW, AmominuD, AmomaxuW, AmomaxuD}

abbrev pub layout : ℕ → Operands → Layout
layout v o = record { fixed = v; operands = o }

-- the fixed bits of an instruction's word, and the operands that stand beside them; of the words of
-- FENCE the one that orders all accesses before it and all after it
abbrev pub layout_of : Instr → Layout
layout_of (Lb rd rs1 imm) = layout 0x00000003 (Immediate rd rs1 imm)
layout_of (Lh rd rs1 imm) = layout 0x00001003 (Immediate rd rs1 imm)
layout_of (Lw rd rs1 imm) = layout 0x00002003 (Immediate rd rs1 imm)
layout_of (Ld rd rs1 imm) = layout 0x00003003 (Immediate rd rs1 imm)
layout_of (Lbu rd rs1 imm) = layout 0x00004003 (Immediate rd rs1 imm)
layout_of (Lhu rd rs1 imm) = layout 0x00005003 (Immediate rd rs1 imm)
layout_of (Lwu rd rs1 imm) = layout 0x00006003 (Immediate rd rs1 imm)
layout_of Fence = layout 0x0ff0000f Fixed
layout_of (Addi rd rs1 imm) = layout 0x00000013 (Immediate rd rs1 imm)
layout_of (Slti rd rs1 imm) = layout 0x00002013 (Immediate rd rs1 imm)
layout_of (Sltiu rd rs1 imm) = layout 0x00003013 (Immediate rd rs1 imm)
layout_of (Xori rd rs1 imm) = layout 0x00004013 (Immediate rd rs1 imm)
layout_of (Ori rd rs1 imm) = layout 0x00006013 (Immediate rd rs1 imm)
layout_of (Andi rd rs1 imm) = layout 0x00007013 (Immediate rd rs1 imm)
layout_of (Slli rd rs1 imm) = layout 0x00001013 (Shift rd rs1 imm)
layout_of (Srli rd rs1 imm) = layout 0x00005013 (Shift rd rs1 imm)
layout_of (Srai rd rs1 imm) = layout 0x40005013 (Shift rd rs1 imm)
layout_of (Auipc rd imm) = layout 0x00000017 (Upper rd imm)
layout_of (Addiw rd rs1 imm) = layout 0x0000001b (Immediate rd rs1 imm)
layout_of (Slliw rd rs1 imm) = layout 0x0000101b (WordShift rd rs1 imm)
layout_of (Srliw rd rs1 imm) = layout 0x0000501b (WordShift rd rs1 imm)
layout_of (Sraiw rd rs1 imm) = layout 0x4000501b (WordShift rd rs1 imm)
layout_of (Sb rs1 rs2 imm) = layout 0x00000023 (Store rs1 rs2 imm)
layout_of (Sh rs1 rs2 imm) = layout 0x00001023 (Store rs1 rs2 imm)
layout_of (Sw rs1 rs2 imm) = layout 0x00002023 (Store rs1 rs2 imm)
layout_of (Sd rs1 rs2 imm) = layout 0x00003023 (Store rs1 rs2 imm)
layout_of (Add rd rs1 rs2) = layout 0x00000033 (Register rd rs1 rs2)
layout_of (Sub rd rs1 rs2) = layout 0x40000033 (Register rd rs1 rs2)
layout_of (Sll rd rs1 rs2) = layout 0x00001033 (Register rd rs1 rs2)
layout_of (Slt rd rs1 rs2) = layout 0x00002033 (Register rd rs1 rs2)
layout_of (Sltu rd rs1 rs2) = layout 0x00003033 (Register rd rs1 rs2)
layout_of (Xor rd rs1 rs2) = layout 0x00004033 (Register rd rs1 rs2)
layout_of (Srl rd rs1 rs2) = layout 0x00005033 (Register rd rs1 rs2)
layout_of (Sra rd rs1 rs2) = layout 0x40005033 (Register rd rs1 rs2)
layout_of (Or rd rs1 rs2) = layout 0x00006033 (Register rd rs1 rs2)
layout_of (And rd rs1 rs2) = layout 0x00007033 (Register rd rs1 rs2)
layout_of (Mul rd rs1 rs2) = layout 0x02000033 (Register rd rs1 rs2)
layout_of (Mulh rd rs1 rs2) = layout 0x02001033 (Register rd rs1 rs2)
layout_of (Mulhsu rd rs1 rs2) = layout 0x02002033 (Register rd rs1 rs2)
layout_of (Mulhu rd rs1 rs2) = layout 0x02003033 (Register rd rs1 rs2)
layout_of (Div rd rs1 rs2) = layout 0x02004033 (Register rd rs1 rs2)
layout_of (Divu rd rs1 rs2) = layout 0x02005033 (Register rd rs1 rs2)
layout_of (Rem rd rs1 rs2) = layout 0x02006033 (Register rd rs1 rs2)
layout_of (Remu rd rs1 rs2) = layout 0x02007033 (Register rd rs1 rs2)
layout_of (Lui rd imm) = layout 0x00000037 (Upper rd imm)
layout_of (Addw rd rs1 rs2) = layout 0x0000003b (Register rd rs1 rs2)
layout_of (Subw rd rs1 rs2) = layout 0x4000003b (Register rd rs1 rs2)
layout_of (Sllw rd rs1 rs2) = layout 0x0000103b (Register rd rs1 rs2)
layout_of (Srlw rd rs1 rs2) = layout 0x0000503b (Register rd rs1 rs2)
layout_of (Sraw rd rs1 rs2) = layout 0x4000503b (Register rd rs1 rs2)
layout_of (Mulw rd rs1 rs2) = layout 0x0200003b (Register rd rs1 rs2)
layout_of (Divw rd rs1 rs2) = layout 0x0200403b (Register rd rs1 rs2)
layout_of (Divuw rd rs1 rs2) = layout 0x0200503b (Register rd rs1 rs2)
layout_of (Remw rd rs1 rs2) = layout 0x0200603b (Register rd rs1 rs2)
layout_of (Remuw rd rs1 rs2) = layout 0x0200703b (Register rd rs1 rs2)
layout_of (Beq rs1 rs2 imm) = layout 0x00000063 (Branch rs1 rs2 imm)
layout_of (Bne rs1 rs2 imm) = layout 0x00001063 (Branch rs1 rs2 imm)
layout_of (Blt rs1 rs2 imm) = layout 0x00004063 (Branch rs1 rs2 imm)
layout_of (Bge rs1 rs2 imm) = layout 0x00005063 (Branch rs1 rs2 imm)
layout_of (Bltu rs1 rs2 imm) = layout 0x00006063 (Branch rs1 rs2 imm)
layout_of (Bgeu rs1 rs2 imm) = layout 0x00007063 (Branch rs1 rs2 imm)
layout_of (Jalr rd rs1 imm) = layout 0x00000067 (Immediate rd rs1 imm)
layout_of (Jal rd imm) = layout 0x0000006f (Jump rd imm)
layout_of Ecall = layout 0x00000073 Fixed
layout_of Ebreak = layout 0x00100073 Fixed
layout_of (LrW rd rs1 order) = layout 0x1000202f (Reserve rd rs1 order)
layout_of (LrD rd rs1 order) = layout 0x1000302f (Reserve rd rs1 order)
layout_of (ScW rd rs1 rs2 order) = layout 0x1800202f (Atomic rd rs1 rs2 order)
layout_of (ScD rd rs1 rs2 order) = layout 0x1800302f (Atomic rd rs1 rs2 order)
layout_of (AmoswapW rd rs1 rs2 order) = layout 0x0800202f (Atomic rd rs1 rs2 order)
layout_of (AmoswapD rd rs1 rs2 order) = layout 0x0800302f (Atomic rd rs1 rs2 order)
layout_of (AmoaddW rd rs1 rs2 order) = layout 0x0000202f (Atomic rd rs1 rs2 order)
layout_of (AmoaddD rd rs1 rs2 order) = layout 0x0000302f (Atomic rd rs1 rs2 order)
layout_of (AmoxorW rd rs1 rs2 order) = layout 0x2000202f (Atomic rd rs1 rs2 order)
layout_of (AmoxorD rd rs1 rs2 order) = layout 0x2000302f (Atomic rd rs1 rs2 order)
layout_of (AmoandW rd rs1 rs2 order) = layout 0x6000202f (Atomic rd rs1 rs2 order)
layout_of (AmoandD rd rs1 rs2 order) = layout 0x6000302f (Atomic rd rs1 rs2 order)
layout_of (AmoorW rd rs1 rs2 order) = layout 0x4000202f (Atomic rd rs1 rs2 order)
layout_of (AmoorD rd rs1 rs2 order) = layout 0x4000302f (Atomic rd rs1 rs2 order)
layout_of (AmominW rd rs1 rs2 order) = layout 0x8000202f (Atomic rd rs1 rs2 order)
layout_of (AmominD rd rs1 rs2 order) = layout 0x8000302f (Atomic rd rs1 rs2 order)
layout_of (AmomaxW rd rs1 rs2 order) = layout 0xa000202f (Atomic rd rs1 rs2 order)
layout_of (AmomaxD rd rs1 rs2 order) = layout 0xa000302f (Atomic rd rs1 rs2 order)
layout_of (AmominuW rd rs1 rs2 order) = layout 0xc000202f (Atomic rd rs1 rs2 order)
layout_of (AmominuD rd rs1 rs2 order) = layout 0xc000302f (Atomic rd rs1 rs2 order)
layout_of (AmomaxuW rd rs1 rs2 order) = layout 0xe000202f (Atomic rd rs1 rs2 order)
layout_of (AmomaxuD rd rs1 rs2 order) = layout 0xe000302f (Atomic rd rs1 rs2 order)

-- format R, with bits for the order of accesses
abbrev pub IsAtomic : Operands → Type 0
IsAtomic (Atomic rd rs1 rs2 order) = Unit {0}
IsAtomic (Reserve rd rs1 order) = Unit {0}
IsAtomic o = ⊥

-- format R, with them and without
abbrev pub HasFormatR : Operands → Type 0
HasFormatR (Register rd rs1 rs2) = Unit {0}
HasFormatR o = IsAtomic o

-- format I, also with an amount of a shift, or format R
abbrev pub HasFormatIOrR : Operands → Type 0
HasFormatIOrR (Immediate rd rs1 imm) = Unit {0}
HasFormatIOrR (Shift rd rs1 imm) = Unit {0}
HasFormatIOrR (WordShift rd rs1 imm) = Unit {0}
HasFormatIOrR o = HasFormatR o

-- ---- the ranges of the operands

-- a whole number that `width` bits hold in two's complement: from - 2 ^ (width - 1) on, and below
-- 2 ^ (width - 1), where `negsuc n` is - n - 1
abbrev pub FitsWidth : ℕ → ℤ → Type 0
FitsWidth width (pos n) = n < 2 ^ (width - 1)
FitsWidth width (negsuc n) = n < 2 ^ (width - 1)

abbrev pub IsBelow : ℕ → ℤ → Type 0
IsBelow limit (pos n) = n < limit
IsBelow limit (negsuc n) = ⊥

abbrev pub IsMultiple : ℕ → ℤ → Type 0
IsMultiple unit z = unsigned_abs z % unit ≡ 0

-- each operand is in the range that its format has room for
abbrev pub IsInRange : Operands → Type 0
IsInRange (Register rd rs1 rs2) = (rd < 32) × (rs1 < 32) × (rs2 < 32)
IsInRange (Immediate rd rs1 imm) = (rd < 32) × (rs1 < 32) × FitsWidth 12 imm
IsInRange (Store rs1 rs2 imm) = (rs1 < 32) × (rs2 < 32) × FitsWidth 12 imm
IsInRange (Branch rs1 rs2 imm) = (rs1 < 32) × (rs2 < 32) × FitsWidth 13 imm × IsMultiple 2 imm
IsInRange (Upper rd imm) = (rd < 32) × FitsWidth 32 imm × IsMultiple (2 ^ 12) imm
IsInRange (Jump rd imm) = (rd < 32) × FitsWidth 21 imm × IsMultiple 2 imm
IsInRange (Shift rd rs1 imm) = (rd < 32) × (rs1 < 32) × IsBelow 64 imm
IsInRange (WordShift rd rs1 imm) = (rd < 32) × (rs1 < 32) × IsBelow 32 imm
IsInRange Fixed = Unit {0}
IsInRange (Atomic rd rs1 rs2 order) = (rd < 32) × (rs1 < 32) × (rs2 < 32) × (order < 4)
IsInRange (Reserve rd rs1 order) = (rd < 32) × (rs1 < 32) × (order < 4)

abbrev pub IsValid : Instr → Type 0
IsValid i = IsInRange (layout_of i).operands

-- ---- the word

-- a whole number modulo 2 ^ width, where it fits `width` bits in two's complement
abbrev pub unsigned : ℕ → ℤ → ℕ
unsigned width (pos n) = n
unsigned width (negsuc n) = 2 ^ width - 1 - n

-- the registers in their places in the word, where a format has no such register 0
abbrev pub registers : ℕ → ℕ → ℕ → ℕ
registers rd rs1 rs2 = rd * 2 ^ 7 + rs1 * 2 ^ 15 + rs2 * 2 ^ 20

-- the operands in their places in the word
abbrev pub placed : Operands → ℕ
placed (Register rd rs1 rs2) = registers rd rs1 rs2
placed (Immediate rd rs1 imm) = registers rd rs1 0 + unsigned 12 imm * 2 ^ 20
placed (Store rs1 rs2 imm) =
    let n = unsigned 12 imm in
    registers 0 rs1 rs2 + bits 4 0 n * 2 ^ 7 + bits 11 5 n * 2 ^ 25
placed (Branch rs1 rs2 imm) =
    let n = unsigned 13 imm in
    registers 0 rs1 rs2 + bits 11 11 n * 2 ^ 7 + bits 4 1 n * 2 ^ 8 + bits 10 5 n * 2 ^ 25 + bits 12 12 n * 2 ^ 31
placed (Upper rd imm) = registers rd 0 0 + bits 31 12 (unsigned 32 imm) * 2 ^ 12
placed (Jump rd imm) =
    let n = unsigned 21 imm in
    registers rd 0 0 + bits 19 12 n * 2 ^ 12 + bits 11 11 n * 2 ^ 20 + bits 10 1 n * 2 ^ 21 + bits 20 20 n * 2 ^ 31
placed (Shift rd rs1 imm) = registers rd rs1 0 + unsigned_abs imm * 2 ^ 20
placed (WordShift rd rs1 imm) = registers rd rs1 0 + unsigned_abs imm * 2 ^ 20
placed Fixed = 0
placed (Atomic rd rs1 rs2 order) = registers rd rs1 rs2 + order * 2 ^ 25
placed (Reserve rd rs1 order) = registers rd rs1 0 + order * 2 ^ 25

abbrev pub encoded : Instr → ℕ
encoded i = (layout_of i).fixed + placed (layout_of i).operands
