-- Each format there and back, as facts about numbers: the word that holds operands gives them again,
-- and a word is what its operands make of its fixed bits.
use Rattle.std.proofs.Common.{◌≡◌, ℕ, ◌+◌, ◌*◌, ◌/◌, ◌%◌, ◌^◌, ◌<◌, bit_and, refl, sym, ◌∙◌, arith, lit≤, ap}
use Rattle.std.specs.Prelude.{ℤ, pos, negsuc}
use Rattle.std.proofs.lemmas.Nat.{and_le_r}
use Rattle.rv_table.specs.declared.layout.Operands.TheVariants.{Register, Immediate, Store, Branch, Upper, Jump, Shift, WordShift, Atomic, Reserve}
use Rattle.rv_table.specs.Rows.{bits, rd_of, rs1_of, rs2_of, i_immediate, s_immediate, b_immediate, u_immediate, j_immediate, shift_amount, word_shift_amount, order_of}
use Rattle.rv_table.specs.Encoding.{placed, registers, unsigned, IsInRange}
use Rattle.rv_table.proofs.Masks.{and-opcode, and-funct3, and-funct6, and-funct7, and-funct5, and-rs2}
use Rattle.rv_table.proofs.TwosComplement.{unsigned-lt, signed-unsigned, FitsWidth-signed, unsigned-signed, unsigned-multiple, IsMultiple-signed}

-- ---- the fixed bits that each mask leaves

funct7_parts : (v : ℕ) → bit_and v 0xfe00707f ≡ v → (v < 2 ^ 32) × (v ≡ v / 2 ^ 25 * 2 ^ 25 + v / 2 ^ 12 % 8 * 2 ^ 12 + v % 128)
funct7_parts v only =
    let fits : v < 2 ^ 32 = omega (arith, and_le_r v 0xfe00707f) in
    (fits, sym only ∙ and-funct7 v fits)

funct6_parts : (v : ℕ) → bit_and v 0xfc00707f ≡ v → (v < 2 ^ 32) × (v ≡ v / 2 ^ 26 * 2 ^ 26 + v / 2 ^ 12 % 8 * 2 ^ 12 + v % 128)
funct6_parts v only =
    let fits : v < 2 ^ 32 = omega (arith, and_le_r v 0xfc00707f) in
    (fits, sym only ∙ and-funct6 v fits)

funct5_parts : (v : ℕ) → bit_and v 0xf800707f ≡ v → (v < 2 ^ 32) × (v ≡ v / 2 ^ 27 * 2 ^ 27 + v / 2 ^ 12 % 8 * 2 ^ 12 + v % 128)
funct5_parts v only =
    let fits : v < 2 ^ 32 = omega (arith, and_le_r v 0xf800707f) in
    (fits, sym only ∙ and-funct5 v fits)

funct3_parts : (v : ℕ) → bit_and v 0x0000707f ≡ v → v ≡ v / 2 ^ 12 % 8 * 2 ^ 12 + v % 128
funct3_parts v only = sym only ∙ and-funct3 v

opcode_parts : (v : ℕ) → bit_and v 0x0000007f ≡ v → v ≡ v % 128
opcode_parts v only = sym only ∙ and-opcode v

-- ---- the word of operands

-- format R
register_word : (op f3 f7 : ℕ) → op < 128 → f3 < 8 → f7 < 128 → (rd rs1 rs2 : ℕ) → IsInRange (Register rd rs1 rs2) → (v w : ℕ)
    → v ≡ f7 * 2 ^ 25 + f3 * 2 ^ 12 + op → w ≡ v + placed (Register rd rs1 rs2)
    → (bit_and w 0xfe00707f ≡ v) × (rd_of w ≡ rd) × (rs1_of w ≡ rs1) × (rs2_of w ≡ rs2) × (w < 2 ^ 32)
register_word op f3 f7 p q s rd rs1 rs2 range v w e d =
    let fits : w < 2 ^ 32 = omega arith in
    (and-funct7 w fits ∙ omega arith, omega arith, omega arith, omega arith, fits)

pub Register-there : (v : ℕ) → bit_and v 0xfe00707f ≡ v → (rd rs1 rs2 : ℕ) → IsInRange (Register rd rs1 rs2) → (w : ℕ)
    → w ≡ v + placed (Register rd rs1 rs2)
    → (bit_and w 0xfe00707f ≡ v) × (rd_of w ≡ rd) × (rs1_of w ≡ rs1) × (rs2_of w ≡ rs2) × (w < 2 ^ 32)
Register-there v only rd rs1 rs2 range w d =
    let parts = funct7_parts v only in
    register_word (v % 128) (v / 2 ^ 12 % 8) (v / 2 ^ 25) (omega arith) (omega arith) (omega arith) rd rs1 rs2 range v w parts.1 d

pub Register-back : (v w : ℕ) → w < 2 ^ 32 → bit_and w 0xfe00707f ≡ v
    → IsInRange (Register (rd_of w) (rs1_of w) (rs2_of w)) × (v + placed (Register (rd_of w) (rs1_of w) (rs2_of w)) ≡ w)
Register-back v w fits m =
    let fixed : v ≡ w / 2 ^ 25 * 2 ^ 25 + w / 2 ^ 12 % 8 * 2 ^ 12 + w % 128 = sym m ∙ and-funct7 w fits in
    ((omega arith, omega arith, omega arith), omega arith)

-- format I
immediate_word : (op f3 : ℕ) → op < 128 → f3 < 8 → (rd rs1 n : ℕ) → rd < 32 → rs1 < 32 → n < 2 ^ 12 → (v w : ℕ)
    → v ≡ f3 * 2 ^ 12 + op → w ≡ v + (registers rd rs1 0 + n * 2 ^ 20)
    → (bit_and w 0x0000707f ≡ v) × (rd_of w ≡ rd) × (rs1_of w ≡ rs1) × (bits 31 20 w ≡ n) × (w < 2 ^ 32)
immediate_word op f3 p q rd rs1 n a b s v w e d =
    (and-funct3 w ∙ omega arith, omega arith, omega arith, omega arith, omega arith)

pub Immediate-there : (v : ℕ) → bit_and v 0x0000707f ≡ v → (rd rs1 : ℕ) (imm : ℤ) → IsInRange (Immediate rd rs1 imm) → (w : ℕ)
    → w ≡ v + placed (Immediate rd rs1 imm)
    → (bit_and w 0x0000707f ≡ v) × (rd_of w ≡ rd) × (rs1_of w ≡ rs1) × (i_immediate w ≡ imm) × (w < 2 ^ 32)
Immediate-there v only rd rs1 imm range w d =
    let bound = unsigned-lt 12 (lit≤ tt) imm range.2 in
    let parts = immediate_word (v % 128) (v / 2 ^ 12 % 8) (omega arith) (omega arith) rd rs1 (unsigned 12 imm) range.0 range.1 bound
    v w (funct3_parts v only) d in
    (parts.0, parts.1, parts.2, rw parts.3 (signed-unsigned 12 (lit≤ tt) imm range.2), parts.4)

pub Immediate-back : (v w : ℕ) → w < 2 ^ 32 → bit_and w 0x0000707f ≡ v
    → IsInRange (Immediate (rd_of w) (rs1_of w) (i_immediate w)) × (v + placed (Immediate (rd_of w) (rs1_of w) (i_immediate w)) ≡ w)
Immediate-back v w fits m =
    let fixed : v ≡ w / 2 ^ 12 % 8 * 2 ^ 12 + w % 128 = sym m ∙ and-funct3 w in
    let bound : bits 31 20 w < 2 ^ 12 = omega arith in (
      (omega arith, omega arith, FitsWidth-signed 12 (lit≤ tt) (bits 31 20 w) bound),
      rw (unsigned-signed 12 (lit≤ tt) (bits 31 20 w) bound) (omega arith),
    )

-- format S
store_word : (op f3 : ℕ) → op < 128 → f3 < 8 → (rs1 rs2 n : ℕ) → rs1 < 32 → rs2 < 32 → n < 2 ^ 12 → (v w : ℕ)
    → v ≡ f3 * 2 ^ 12 + op → w ≡ v + (registers 0 rs1 rs2 + bits 4 0 n * 2 ^ 7 + bits 11 5 n * 2 ^ 25)
    → (bit_and w 0x0000707f ≡ v) × (rs1_of w ≡ rs1) × (rs2_of w ≡ rs2) × (bits 31 25 w * 2 ^ 5 + bits 11 7 w ≡ n) × (w < 2 ^ 32)
store_word op f3 p q rs1 rs2 n a b s v w e d =
    (and-funct3 w ∙ omega arith, omega arith, omega arith, omega arith, omega arith)

pub Store-there : (v : ℕ) → bit_and v 0x0000707f ≡ v → (rs1 rs2 : ℕ) (imm : ℤ) → IsInRange (Store rs1 rs2 imm) → (w : ℕ)
    → w ≡ v + placed (Store rs1 rs2 imm)
    → (bit_and w 0x0000707f ≡ v) × (rs1_of w ≡ rs1) × (rs2_of w ≡ rs2) × (s_immediate w ≡ imm) × (w < 2 ^ 32)
Store-there v only rs1 rs2 imm range w d =
    let bound = unsigned-lt 12 (lit≤ tt) imm range.2 in
    let parts = store_word (v % 128) (v / 2 ^ 12 % 8) (omega arith) (omega arith) rs1 rs2 (unsigned 12 imm) range.0 range.1 bound
    v w (funct3_parts v only) d in
    (parts.0, parts.1, parts.2, rw parts.3 (signed-unsigned 12 (lit≤ tt) imm range.2), parts.4)

pub Store-back : (v w : ℕ) → w < 2 ^ 32 → bit_and w 0x0000707f ≡ v
    → IsInRange (Store (rs1_of w) (rs2_of w) (s_immediate w)) × (v + placed (Store (rs1_of w) (rs2_of w) (s_immediate w)) ≡ w)
Store-back v w fits m =
    let fixed : v ≡ w / 2 ^ 12 % 8 * 2 ^ 12 + w % 128 = sym m ∙ and-funct3 w in
    let n : ℕ = bits 31 25 w * 2 ^ 5 + bits 11 7 w in
    let bound : n < 2 ^ 12 = omega arith in (
      (omega arith, omega arith, FitsWidth-signed 12 (lit≤ tt) n bound),
      rw (unsigned-signed 12 (lit≤ tt) n bound) (omega arith),
    )

-- format B
branch_word : (op f3 : ℕ) → op < 128 → f3 < 8 → (rs1 rs2 n : ℕ) → rs1 < 32 → rs2 < 32 → n < 2 ^ 13 → n % 2 ≡ 0 → (v w : ℕ)
    → v ≡ f3 * 2 ^ 12 + op
    → w ≡ v + (registers 0 rs1 rs2 + bits 11 11 n * 2 ^ 7 + bits 4 1 n * 2 ^ 8 + bits 10 5 n * 2 ^ 25 + bits 12 12 n * 2 ^ 31)
    → (bit_and w 0x0000707f ≡ v) × (rs1_of w ≡ rs1) × (rs2_of w ≡ rs2)
    × (bits 31 31 w * 2 ^ 12 + bits 7 7 w * 2 ^ 11 + bits 30 25 w * 2 ^ 5 + bits 11 8 w * 2 ^ 1 ≡ n) × (w < 2 ^ 32)
branch_word op f3 p q rs1 rs2 n a b s even v w e d =
    (and-funct3 w ∙ omega arith, omega arith, omega arith, omega arith, omega arith)

pub Branch-there : (v : ℕ) → bit_and v 0x0000707f ≡ v → (rs1 rs2 : ℕ) (imm : ℤ) → IsInRange (Branch rs1 rs2 imm) → (w : ℕ)
    → w ≡ v + placed (Branch rs1 rs2 imm)
    → (bit_and w 0x0000707f ≡ v) × (rs1_of w ≡ rs1) × (rs2_of w ≡ rs2) × (b_immediate w ≡ imm) × (w < 2 ^ 32)
Branch-there v only rs1 rs2 imm range w d =
    let bound = unsigned-lt 13 (lit≤ tt) imm range.2 in
    let even = unsigned-multiple 2 13 (lit≤ tt) refl imm range.2 range.3 in
    let parts = branch_word (v % 128) (v / 2 ^ 12 % 8) (omega arith) (omega arith) rs1 rs2 (unsigned 13 imm) range.0 range.1 bound
    even v w (funct3_parts v only) d in
    (parts.0, parts.1, parts.2, rw parts.3 (signed-unsigned 13 (lit≤ tt) imm range.2), parts.4)

pub Branch-back : (v w : ℕ) → w < 2 ^ 32 → bit_and w 0x0000707f ≡ v
    → IsInRange (Branch (rs1_of w) (rs2_of w) (b_immediate w)) × (v + placed (Branch (rs1_of w) (rs2_of w) (b_immediate w)) ≡ w)
Branch-back v w fits m =
    let fixed : v ≡ w / 2 ^ 12 % 8 * 2 ^ 12 + w % 128 = sym m ∙ and-funct3 w in
    let n : ℕ = bits 31 31 w * 2 ^ 12 + bits 7 7 w * 2 ^ 11 + bits 30 25 w * 2 ^ 5 + bits 11 8 w * 2 ^ 1 in
    let bound : n < 2 ^ 13 = omega arith in (
      (
        omega arith,
        omega arith,
        FitsWidth-signed 13 (lit≤ tt) n bound,
        IsMultiple-signed 2 13 (lit≤ tt) refl n bound (omega arith),
      ),
      rw (unsigned-signed 13 (lit≤ tt) n bound) (omega arith),
    )

-- format U
upper_word : (op : ℕ) → op < 128 → (rd n : ℕ) → rd < 32 → n < 2 ^ 32 → n % 2 ^ 12 ≡ 0 → (v w : ℕ) → v ≡ op
    → w ≡ v + (registers rd 0 0 + bits 31 12 n * 2 ^ 12)
    → (bit_and w 0x0000007f ≡ v) × (rd_of w ≡ rd) × (bits 31 12 w * 2 ^ 12 ≡ n) × (w < 2 ^ 32)
upper_word op p rd n a s whole v w e d =
    (and-opcode w ∙ omega arith, omega arith, omega arith, omega arith)

pub Upper-there : (v : ℕ) → bit_and v 0x0000007f ≡ v → (rd : ℕ) (imm : ℤ) → IsInRange (Upper rd imm) → (w : ℕ)
    → w ≡ v + placed (Upper rd imm)
    → (bit_and w 0x0000007f ≡ v) × (rd_of w ≡ rd) × (u_immediate w ≡ imm) × (w < 2 ^ 32)
Upper-there v only rd imm range w d =
    let bound = unsigned-lt 32 (lit≤ tt) imm range.1 in
    let whole = unsigned-multiple (2 ^ 12) 32 (lit≤ tt) refl imm range.1 range.2 in
    let parts = upper_word (v % 128) (omega arith) rd (unsigned 32 imm) range.0 bound whole v w (opcode_parts v only) d in
    (parts.0, parts.1, rw parts.2 (signed-unsigned 32 (lit≤ tt) imm range.1), parts.3)

pub Upper-back : (v w : ℕ) → w < 2 ^ 32 → bit_and w 0x0000007f ≡ v
    → IsInRange (Upper (rd_of w) (u_immediate w)) × (v + placed (Upper (rd_of w) (u_immediate w)) ≡ w)
Upper-back v w fits m =
    let fixed : v ≡ w % 128 = sym m ∙ and-opcode w in
    let n : ℕ = bits 31 12 w * 2 ^ 12 in
    let bound : n < 2 ^ 32 = omega arith in (
      (omega arith, FitsWidth-signed 32 (lit≤ tt) n bound, IsMultiple-signed (2 ^ 12) 32 (lit≤ tt) refl n bound (omega arith)),
      rw (unsigned-signed 32 (lit≤ tt) n bound) (omega arith),
    )

-- format J
jump_word : (op : ℕ) → op < 128 → (rd n : ℕ) → rd < 32 → n < 2 ^ 21 → n % 2 ≡ 0 → (v w : ℕ) → v ≡ op
    → w ≡ v + (registers rd 0 0 + bits 19 12 n * 2 ^ 12 + bits 11 11 n * 2 ^ 20 + bits 10 1 n * 2 ^ 21 + bits 20 20 n * 2 ^ 31)
    → (bit_and w 0x0000007f ≡ v) × (rd_of w ≡ rd)
    × (bits 31 31 w * 2 ^ 20 + bits 19 12 w * 2 ^ 12 + bits 20 20 w * 2 ^ 11 + bits 30 21 w * 2 ^ 1 ≡ n) × (w < 2 ^ 32)
jump_word op p rd n a s even v w e d =
    (and-opcode w ∙ omega arith, omega arith, omega arith, omega arith)

pub Jump-there : (v : ℕ) → bit_and v 0x0000007f ≡ v → (rd : ℕ) (imm : ℤ) → IsInRange (Jump rd imm) → (w : ℕ)
    → w ≡ v + placed (Jump rd imm)
    → (bit_and w 0x0000007f ≡ v) × (rd_of w ≡ rd) × (j_immediate w ≡ imm) × (w < 2 ^ 32)
Jump-there v only rd imm range w d =
    let bound = unsigned-lt 21 (lit≤ tt) imm range.1 in
    let even = unsigned-multiple 2 21 (lit≤ tt) refl imm range.1 range.2 in
    let parts = jump_word (v % 128) (omega arith) rd (unsigned 21 imm) range.0 bound even v w (opcode_parts v only) d in
    (parts.0, parts.1, rw parts.2 (signed-unsigned 21 (lit≤ tt) imm range.1), parts.3)

pub Jump-back : (v w : ℕ) → w < 2 ^ 32 → bit_and w 0x0000007f ≡ v
    → IsInRange (Jump (rd_of w) (j_immediate w)) × (v + placed (Jump (rd_of w) (j_immediate w)) ≡ w)
Jump-back v w fits m =
    let fixed : v ≡ w % 128 = sym m ∙ and-opcode w in
    let n : ℕ = bits 31 31 w * 2 ^ 20 + bits 19 12 w * 2 ^ 12 + bits 20 20 w * 2 ^ 11 + bits 30 21 w * 2 ^ 1 in
    let bound : n < 2 ^ 21 = omega arith in (
      (omega arith, FitsWidth-signed 21 (lit≤ tt) n bound, IsMultiple-signed 2 21 (lit≤ tt) refl n bound (omega arith)),
      rw (unsigned-signed 21 (lit≤ tt) n bound) (omega arith),
    )

-- shifts of 64 bits
shift_word : (op f3 f6 : ℕ) → op < 128 → f3 < 8 → f6 < 64 → (rd rs1 n : ℕ) → rd < 32 → rs1 < 32 → n < 64 → (v w : ℕ)
    → v ≡ f6 * 2 ^ 26 + f3 * 2 ^ 12 + op → w ≡ v + (registers rd rs1 0 + n * 2 ^ 20)
    → (bit_and w 0xfc00707f ≡ v) × (rd_of w ≡ rd) × (rs1_of w ≡ rs1) × (bits 25 20 w ≡ n) × (w < 2 ^ 32)
shift_word op f3 f6 p q s rd rs1 n a b k v w e d =
    let fits : w < 2 ^ 32 = omega arith in
    (and-funct6 w fits ∙ omega arith, omega arith, omega arith, omega arith, fits)

pub Shift-there : (v : ℕ) → bit_and v 0xfc00707f ≡ v → (rd rs1 : ℕ) (imm : ℤ) → IsInRange (Shift rd rs1 imm) → (w : ℕ)
    → w ≡ v + placed (Shift rd rs1 imm)
    → (bit_and w 0xfc00707f ≡ v) × (rd_of w ≡ rd) × (rs1_of w ≡ rs1) × (shift_amount w ≡ imm) × (w < 2 ^ 32)
Shift-there v only rd rs1 (negsuc n) range w d = absurd range.2
Shift-there v only rd rs1 (pos n) range w d =
    let fixed = funct6_parts v only in
    let parts = shift_word (v % 128) (v / 2 ^ 12 % 8) (v / 2 ^ 26) (omega arith) (omega arith) (omega arith) rd rs1 n
    range.0 range.1 range.2 v w fixed.1 d in
    (parts.0, parts.1, parts.2, ap pos parts.3, parts.4)

pub Shift-back : (v w : ℕ) → w < 2 ^ 32 → bit_and w 0xfc00707f ≡ v
    → IsInRange (Shift (rd_of w) (rs1_of w) (shift_amount w)) × (v + placed (Shift (rd_of w) (rs1_of w) (shift_amount w)) ≡ w)
Shift-back v w fits m =
    let fixed : v ≡ w / 2 ^ 26 * 2 ^ 26 + w / 2 ^ 12 % 8 * 2 ^ 12 + w % 128 = sym m ∙ and-funct6 w fits in
    ((omega arith, omega arith, omega arith), omega arith)

-- shifts of 32 bits, whose amount stands where format R has its second register
pub WordShift-there : (v : ℕ) → bit_and v 0xfe00707f ≡ v → (rd rs1 : ℕ) (imm : ℤ) → IsInRange (WordShift rd rs1 imm) → (w : ℕ)
    → w ≡ v + placed (WordShift rd rs1 imm)
    → (bit_and w 0xfe00707f ≡ v) × (rd_of w ≡ rd) × (rs1_of w ≡ rs1) × (word_shift_amount w ≡ imm) × (w < 2 ^ 32)
WordShift-there v only rd rs1 (negsuc n) range w d = absurd range.2
WordShift-there v only rd rs1 (pos n) range w d =
    let parts = Register-there v only rd rs1 n range w (d ∙ omega arith) in
    (parts.0, parts.1, parts.2, ap pos parts.3, parts.4)

pub WordShift-back : (v w : ℕ) → w < 2 ^ 32 → bit_and w 0xfe00707f ≡ v
    → IsInRange (WordShift (rd_of w) (rs1_of w) (word_shift_amount w))
    × (v + placed (WordShift (rd_of w) (rs1_of w) (word_shift_amount w)) ≡ w)
WordShift-back v w fits m =
    let parts = Register-back v w fits m in
    (parts.0, omega (arith, parts.1))

-- atomic instructions
atomic_word : (op f3 f5 : ℕ) → op < 128 → f3 < 8 → f5 < 32 → (rd rs1 rs2 order : ℕ) → IsInRange (Atomic rd rs1 rs2 order) → (v w : ℕ)
    → v ≡ f5 * 2 ^ 27 + f3 * 2 ^ 12 + op → w ≡ v + placed (Atomic rd rs1 rs2 order)
    → (bit_and w 0xf800707f ≡ v) × (rd_of w ≡ rd) × (rs1_of w ≡ rs1) × (rs2_of w ≡ rs2) × (order_of w ≡ order) × (w < 2 ^ 32)
atomic_word op f3 f5 p q s rd rs1 rs2 order range v w e d =
    let fits : w < 2 ^ 32 = omega arith in
    (and-funct5 w fits ∙ omega arith, omega arith, omega arith, omega arith, omega arith, fits)

pub Atomic-there : (v : ℕ) → bit_and v 0xf800707f ≡ v → (rd rs1 rs2 order : ℕ) → IsInRange (Atomic rd rs1 rs2 order) → (w : ℕ)
    → w ≡ v + placed (Atomic rd rs1 rs2 order)
    → (bit_and w 0xf800707f ≡ v) × (rd_of w ≡ rd) × (rs1_of w ≡ rs1) × (rs2_of w ≡ rs2) × (order_of w ≡ order) × (w < 2 ^ 32)
Atomic-there v only rd rs1 rs2 order range w d =
    let parts = funct5_parts v only in
    atomic_word (v % 128) (v / 2 ^ 12 % 8) (v / 2 ^ 27) (omega arith) (omega arith) (omega arith) rd rs1 rs2 order range v w parts.1 d

pub Atomic-back : (v w : ℕ) → w < 2 ^ 32 → bit_and w 0xf800707f ≡ v
    → IsInRange (Atomic (rd_of w) (rs1_of w) (rs2_of w) (order_of w))
    × (v + placed (Atomic (rd_of w) (rs1_of w) (rs2_of w) (order_of w)) ≡ w)
Atomic-back v w fits m =
    let fixed : v ≡ w / 2 ^ 27 * 2 ^ 27 + w / 2 ^ 12 % 8 * 2 ^ 12 + w % 128 = sym m ∙ and-funct5 w fits in
    ((omega arith, omega arith, omega arith, omega arith), omega arith)

-- LR, whose second register is 0
reserve_word : (op f3 f5 : ℕ) → op < 128 → f3 < 8 → f5 < 32 → (rd rs1 order : ℕ) → IsInRange (Reserve rd rs1 order) → (v w : ℕ)
    → v ≡ f5 * 2 ^ 27 + f3 * 2 ^ 12 + op → w ≡ v + placed (Reserve rd rs1 order)
    → (bit_and w 0xf9f0707f ≡ v) × (rd_of w ≡ rd) × (rs1_of w ≡ rs1) × (order_of w ≡ order) × (w < 2 ^ 32)
reserve_word op f3 f5 p q s rd rs1 order range v w e d =
    let fits : w < 2 ^ 32 = omega arith in
    (and-rs2 w fits ∙ omega arith, omega arith, omega arith, omega arith, fits)

pub Reserve-there : (v : ℕ) → bit_and v 0xf800707f ≡ v → (rd rs1 order : ℕ) → IsInRange (Reserve rd rs1 order) → (w : ℕ)
    → w ≡ v + placed (Reserve rd rs1 order)
    → (bit_and w 0xf9f0707f ≡ v) × (rd_of w ≡ rd) × (rs1_of w ≡ rs1) × (order_of w ≡ order) × (w < 2 ^ 32)
Reserve-there v only rd rs1 order range w d =
    let parts = funct5_parts v only in
    reserve_word (v % 128) (v / 2 ^ 12 % 8) (v / 2 ^ 27) (omega arith) (omega arith) (omega arith) rd rs1 order range v w parts.1 d

pub Reserve-back : (v w : ℕ) → bit_and v 0xf800707f ≡ v → w < 2 ^ 32 → bit_and w 0xf9f0707f ≡ v
    → IsInRange (Reserve (rd_of w) (rs1_of w) (order_of w)) × (v + placed (Reserve (rd_of w) (rs1_of w) (order_of w)) ≡ w)
Reserve-back v w only fits m =
    let parts = funct5_parts v only in
    let fixed : v ≡ w / 2 ^ 27 * 2 ^ 27 + w / 2 ^ 20 % 32 * 2 ^ 20 + w / 2 ^ 12 % 8 * 2 ^ 12 + w % 128 = sym m ∙ and-rs2 w fits in
    ((omega arith, omega arith, omega arith), omega arith)
