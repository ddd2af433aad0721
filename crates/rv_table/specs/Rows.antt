-- The instructions of RV64I and of the extensions M and A as data: one row for each mnemonic, as the RISC-V
-- unprivileged specification lists them. A reader who has it open checks them line by line.
use Rattle.std.specs.Prelude.{◌≡◌, ℕ, ◌+◌, ◌-◌, ◌*◌, ◌/◌, ◌%◌, ◌^◌, ◌==◌, nat_lt, if◌then◌else◌, Bool, ℤ, pos, ◌-ℤ◌, List, [], ◌∷◌, ◌++◌, Option, Some, None, bit_and}
use Rattle.rv_table.specs.declared.instr.Instr.{Instr}
use Rattle.rv_table.specs.declared.instr.Instr.TheVariants.{Lb, Lh, Lw, Ld, Lbu, Lhu, Lwu, Fence, Addi, Slti, Sltiu, Xori, Ori, Andi, Slli, Srli, Srai, Auipc, Addiw, Slliw, Srliw, Sraiw, Sb, Sh, Sw, Sd, Add, Sub, Sll, Slt, Sltu, Xor, Srl, Sra, Or, And, Mul, Mulh, Mulhsu, Mulhu, Div, Divu, Rem, Remu, Lui, Addw, Subw, Sllw, Srlw, Sraw, Mulw, Divw, Divuw, Remw, Remuw, Beq, Bne, Blt, Bge, Bltu, Bgeu, Jalr, Jal, Ecall, Ebreak, LrW, LrD, ScW, ScD, AmoswapW, AmoswapD, AmoaddW, AmoaddD, AmoxorW, AmoxorD, AmoandW, AmoandD, AmoorW, AmoorD, AmominW, AmominD, AmomaxW, AmomaxD, AmominuW, AmominuD, AmomaxuW, AmomaxuD}

-- ---- the fields of a word

-- the bits of a number from `high` down to `low`, both of them included
abbrev pub bits : ℕ → ℕ → ℕ → ℕ
bits high low n = n / 2 ^ low % 2 ^ (high - low + 1)

-- a number of `width` bits read in two's complement
abbrev pub signed : ℕ → ℕ → ℤ
signed width n = if nat_lt n (2 ^ (width - 1)) then pos n else pos n -ℤ pos (2 ^ width)

-- the register that is written, and the first and the second that are read
abbrev pub rd_of : ℕ → ℕ
rd_of w = bits 11 7 w

abbrev pub rs1_of : ℕ → ℕ
rs1_of w = bits 19 15 w

abbrev pub rs2_of : ℕ → ℕ
rs2_of w = bits 24 20 w

-- the immediates, which are put together of bits of the word: where one starts is said by the power
-- of two that it is multiplied by
abbrev pub i_immediate : ℕ → ℤ
i_immediate w = signed 12 (bits 31 20 w)

abbrev pub s_immediate : ℕ → ℤ
s_immediate w = signed 12 (bits 31 25 w * 2 ^ 5 + bits 11 7 w)

abbrev pub b_immediate : ℕ → ℤ
b_immediate w =
    signed 13 (bits 31 31 w * 2 ^ 12 + bits 7 7 w * 2 ^ 11 + bits 30 25 w * 2 ^ 5 + bits 11 8 w * 2 ^ 1)

abbrev pub u_immediate : ℕ → ℤ
u_immediate w = signed 32 (bits 31 12 w * 2 ^ 12)

abbrev pub j_immediate : ℕ → ℤ
j_immediate w =
    signed 21 (bits 31 31 w * 2 ^ 20 + bits 19 12 w * 2 ^ 12 + bits 20 20 w * 2 ^ 11 + bits 30 21 w * 2 ^ 1)

-- the amount of a shift, of 64 bits and of 32
abbrev pub shift_amount : ℕ → ℤ
shift_amount w = pos (bits 25 20 w)

abbrev pub word_shift_amount : ℕ → ℤ
word_shift_amount w = pos (bits 24 20 w)

-- whether other accesses are ordered before and behind an atomic one: the bits aq and rl
abbrev pub order_of : ℕ → ℕ
order_of w = bits 26 25 w

-- ---- the rows

-- which operands stand in a word, and the instruction that has them: the formats R, I, S, B, U and J
-- of the manual, the shifts by six bits and by five, words without operands, and the atomic instructions,
-- which are R with two bits for their order, among them LR without a second register
pub data Format : Type 0 where
  R : (ℕ → ℕ → ℕ → Instr) → Format
  I : (ℕ → ℕ → ℤ → Instr) → Format
  S : (ℕ → ℕ → ℤ → Instr) → Format
  B : (ℕ → ℕ → ℤ → Instr) → Format
  U : (ℕ → ℤ → Instr) → Format
  J : (ℕ → ℤ → Instr) → Format
  Shift6 : (ℕ → ℕ → ℤ → Instr) → Format
  Shift5 : (ℕ → ℕ → ℤ → Instr) → Format
  Plain : Instr → Format
  Amo : (ℕ → ℕ → ℕ → ℕ → Instr) → Format
  Lr : (ℕ → ℕ → ℕ → Instr) → Format

-- the instruction of a word, in a format
abbrev pub instruction : Format → ℕ → Instr
instruction (R make) w = make (rd_of w) (rs1_of w) (rs2_of w)
instruction (I make) w = make (rd_of w) (rs1_of w) (i_immediate w)
instruction (S make) w = make (rs1_of w) (rs2_of w) (s_immediate w)
instruction (B make) w = make (rs1_of w) (rs2_of w) (b_immediate w)
instruction (U make) w = make (rd_of w) (u_immediate w)
instruction (J make) w = make (rd_of w) (j_immediate w)
instruction (Shift6 make) w = make (rd_of w) (rs1_of w) (shift_amount w)
instruction (Shift5 make) w = make (rd_of w) (rs1_of w) (word_shift_amount w)
instruction (Plain i) w = i
instruction (Amo make) w = make (rd_of w) (rs1_of w) (rs2_of w) (order_of w)
instruction (Lr make) w = make (rd_of w) (rs1_of w) (order_of w)

-- the bits of the word that are fixed, their values, and the rest of it
pub record Row : Type 0 where
  pub mask : ℕ
  pub value : ℕ
  pub format : Format

abbrev pub row : ℕ → ℕ → Format → Row
row m v f = record { mask = m; value = v; format = f }

-- opcode 03: loads
abbrev pub load_rows : List Row
load_rows =
    row 0x0000707f 0x00000003 (I Lb) ∷
    row 0x0000707f 0x00001003 (I Lh) ∷
    row 0x0000707f 0x00002003 (I Lw) ∷
    row 0x0000707f 0x00003003 (I Ld) ∷
    row 0x0000707f 0x00004003 (I Lbu) ∷
    row 0x0000707f 0x00005003 (I Lhu) ∷
    row 0x0000707f 0x00006003 (I Lwu) ∷ []

-- opcode 0f: memory ordering
abbrev pub fence_rows : List Row
fence_rows =
    row 0x0000707f 0x0000000f (Plain Fence) ∷ []

-- opcode 13: arithmetic with an immediate
abbrev pub immediate_rows : List Row
immediate_rows =
    row 0x0000707f 0x00000013 (I Addi) ∷
    row 0x0000707f 0x00002013 (I Slti) ∷
    row 0x0000707f 0x00003013 (I Sltiu) ∷
    row 0x0000707f 0x00004013 (I Xori) ∷
    row 0x0000707f 0x00006013 (I Ori) ∷
    row 0x0000707f 0x00007013 (I Andi) ∷
    row 0xfc00707f 0x00001013 (Shift6 Slli) ∷
    row 0xfc00707f 0x00005013 (Shift6 Srli) ∷
    row 0xfc00707f 0x40005013 (Shift6 Srai) ∷ []

-- opcode 17: the upper part of an address
abbrev pub auipc_rows : List Row
auipc_rows =
    row 0x0000007f 0x00000017 (U Auipc) ∷ []

-- opcode 1b: arithmetic on 32 bits with an immediate
abbrev pub word_immediate_rows : List Row
word_immediate_rows =
    row 0x0000707f 0x0000001b (I Addiw) ∷
    row 0xfe00707f 0x0000101b (Shift5 Slliw) ∷
    row 0xfe00707f 0x0000501b (Shift5 Srliw) ∷
    row 0xfe00707f 0x4000501b (Shift5 Sraiw) ∷ []

-- opcode 23: stores
abbrev pub store_rows : List Row
store_rows =
    row 0x0000707f 0x00000023 (S Sb) ∷
    row 0x0000707f 0x00001023 (S Sh) ∷
    row 0x0000707f 0x00002023 (S Sw) ∷
    row 0x0000707f 0x00003023 (S Sd) ∷ []

-- opcode 2f: atomic instructions, on words and on doublewords
abbrev pub atomic_rows : List Row
atomic_rows =
    row 0xf9f0707f 0x1000202f (Lr LrW) ∷
    row 0xf9f0707f 0x1000302f (Lr LrD) ∷
    row 0xf800707f 0x1800202f (Amo ScW) ∷
    row 0xf800707f 0x1800302f (Amo ScD) ∷
    row 0xf800707f 0x0800202f (Amo AmoswapW) ∷
    row 0xf800707f 0x0800302f (Amo AmoswapD) ∷
    row 0xf800707f 0x0000202f (Amo AmoaddW) ∷
    row 0xf800707f 0x0000302f (Amo AmoaddD) ∷
    row 0xf800707f 0x2000202f (Amo AmoxorW) ∷
    row 0xf800707f 0x2000302f (Amo AmoxorD) ∷
    row 0xf800707f 0x6000202f (Amo AmoandW) ∷
    row 0xf800707f 0x6000302f (Amo AmoandD) ∷
    row 0xf800707f 0x4000202f (Amo AmoorW) ∷
    row 0xf800707f 0x4000302f (Amo AmoorD) ∷
    row 0xf800707f 0x8000202f (Amo AmominW) ∷
    row 0xf800707f 0x8000302f (Amo AmominD) ∷
    row 0xf800707f 0xa000202f (Amo AmomaxW) ∷
    row 0xf800707f 0xa000302f (Amo AmomaxD) ∷
    row 0xf800707f 0xc000202f (Amo AmominuW) ∷
    row 0xf800707f 0xc000302f (Amo AmominuD) ∷
    row 0xf800707f 0xe000202f (Amo AmomaxuW) ∷
    row 0xf800707f 0xe000302f (Amo AmomaxuD) ∷ []

-- opcode 33: arithmetic on two registers
abbrev pub register_rows : List Row
register_rows =
    row 0xfe00707f 0x00000033 (R Add) ∷
    row 0xfe00707f 0x40000033 (R Sub) ∷
    row 0xfe00707f 0x00001033 (R Sll) ∷
    row 0xfe00707f 0x00002033 (R Slt) ∷
    row 0xfe00707f 0x00003033 (R Sltu) ∷
    row 0xfe00707f 0x00004033 (R Xor) ∷
    row 0xfe00707f 0x00005033 (R Srl) ∷
    row 0xfe00707f 0x40005033 (R Sra) ∷
    row 0xfe00707f 0x00006033 (R Or) ∷
    row 0xfe00707f 0x00007033 (R And) ∷
    row 0xfe00707f 0x02000033 (R Mul) ∷
    row 0xfe00707f 0x02001033 (R Mulh) ∷
    row 0xfe00707f 0x02002033 (R Mulhsu) ∷
    row 0xfe00707f 0x02003033 (R Mulhu) ∷
    row 0xfe00707f 0x02004033 (R Div) ∷
    row 0xfe00707f 0x02005033 (R Divu) ∷
    row 0xfe00707f 0x02006033 (R Rem) ∷
    row 0xfe00707f 0x02007033 (R Remu) ∷ []

-- opcode 37: the upper part of a constant
abbrev pub lui_rows : List Row
lui_rows =
    row 0x0000007f 0x00000037 (U Lui) ∷ []

-- opcode 3b: arithmetic on the lower 32 bits of two registers
abbrev pub word_register_rows : List Row
word_register_rows =
    row 0xfe00707f 0x0000003b (R Addw) ∷
    row 0xfe00707f 0x4000003b (R Subw) ∷
    row 0xfe00707f 0x0000103b (R Sllw) ∷
    row 0xfe00707f 0x0000503b (R Srlw) ∷
    row 0xfe00707f 0x4000503b (R Sraw) ∷
    row 0xfe00707f 0x0200003b (R Mulw) ∷
    row 0xfe00707f 0x0200403b (R Divw) ∷
    row 0xfe00707f 0x0200503b (R Divuw) ∷
    row 0xfe00707f 0x0200603b (R Remw) ∷
    row 0xfe00707f 0x0200703b (R Remuw) ∷ []

-- opcode 63: conditional branches
abbrev pub branch_rows : List Row
branch_rows =
    row 0x0000707f 0x00000063 (B Beq) ∷
    row 0x0000707f 0x00001063 (B Bne) ∷
    row 0x0000707f 0x00004063 (B Blt) ∷
    row 0x0000707f 0x00005063 (B Bge) ∷
    row 0x0000707f 0x00006063 (B Bltu) ∷
    row 0x0000707f 0x00007063 (B Bgeu) ∷ []

-- opcode 67: the jump through a register
abbrev pub jalr_rows : List Row
jalr_rows =
    row 0x0000707f 0x00000067 (I Jalr) ∷ []

-- opcode 6f: the jump
abbrev pub jal_rows : List Row
jal_rows =
    row 0x0000007f 0x0000006f (J Jal) ∷ []

-- opcode 73: calls to the environment
abbrev pub system_rows : List Row
system_rows =
    row 0xffffffff 0x00000073 (Plain Ecall) ∷
    row 0xffffffff 0x00100073 (Plain Ebreak) ∷ []

abbrev pub rows : List Row
rows =
    load_rows ++ fence_rows ++ immediate_rows ++ auipc_rows ++ word_immediate_rows ++ store_rows ++ atomic_rows
    ++ register_rows ++ lui_rows ++ word_register_rows ++ branch_rows ++ jalr_rows ++ jal_rows ++ system_rows

-- a word has the fixed bits of a row
abbrev pub Matches : Row → ℕ → Type 0
Matches r w = bit_and w r.mask ≡ r.value

abbrev pub is_match : ℕ → Row → Bool
is_match w r = bit_and w r.mask == r.value

-- the instruction of the first of these rows that a word matches
abbrev pub first_match : List Row → ℕ → Option Instr
first_match [] w = None
first_match (r ∷ rs) w = if is_match w r then Some (instruction r.format w) else first_match rs w

-- the instruction of a word: no word matches two rows, so that their order says nothing
unfoldable pub decoded : ℕ → Option Instr
decoded w = first_match rows w
