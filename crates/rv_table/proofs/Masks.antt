-- What the mask of each format keeps of a word.
use Rattle.std.proofs.Common.{◌≡◌, ℕ, ◌+◌, ◌-◌, ◌*◌, ◌/◌, ◌%◌, ◌^◌, ◌<◌, bit_and, refl, arith}
use Rattle.std.proofs.Math.Nat.{mod-mod}
use Rattle.std.proofs.lemmas.Nat.{and_mask, and_shr, and_mod, and_le_r}

-- `count` bits from `low` on
abbrev run : ℕ → ℕ → ℕ → ℕ
run low count n = n / 2 ^ low % 2 ^ count

run-and : (w m low count : ℕ) → run low count (bit_and w m) ≡ bit_and (run low count w) (run low count m)
run-and w m low count = rw (and_shr, and_mod) refl

-- a run of bits is dropped where the mask has none of it, and kept where it has all
dropped : (w m low count : ℕ) → run low count m ≡ 0 → run low count (bit_and w m) ≡ 0
dropped w m low count none = rw (run-and w m low count, none) (omega (arith, and_le_r (run low count w) 0))

kept : (w m low count : ℕ) → run low count m ≡ 2 ^ count - 1 → run low count (bit_and w m) ≡ run low count w
kept w m low count all =
    rw (run-and w m low count, all, and_mask (run low count w) count) (mod-mod (w / 2 ^ low) (2 ^ count))

-- the opcode
pub and-opcode : (w : ℕ) → bit_and w 0x0000007f ≡ w % 128
and-opcode w = and_mask w 7

-- the opcode and funct3
pub and-funct3 : (w : ℕ) → bit_and w 0x0000707f ≡ w / 2 ^ 12 % 8 * 2 ^ 12 + w % 128
and-funct3 w =
    omega (arith, and_le_r w 0x0000707f, kept w 0x0000707f 0 7 refl, dropped w 0x0000707f 7 5 refl, kept w 0x0000707f 12 3 refl)

-- the opcode, funct3 and the upper six bits
pub and-funct6 : (w : ℕ) → w < 2 ^ 32
    → bit_and w 0xfc00707f ≡ w / 2 ^ 26 * 2 ^ 26 + w / 2 ^ 12 % 8 * 2 ^ 12 + w % 128
and-funct6 w fits =
    omega (
      arith,
      and_le_r w 0xfc00707f,
      kept w 0xfc00707f 0 7 refl,
      dropped w 0xfc00707f 7 5 refl,
      kept w 0xfc00707f 12 3 refl,
      dropped w 0xfc00707f 15 11 refl,
      kept w 0xfc00707f 26 6 refl,
    )

-- the opcode, funct3 and funct7
pub and-funct7 : (w : ℕ) → w < 2 ^ 32
    → bit_and w 0xfe00707f ≡ w / 2 ^ 25 * 2 ^ 25 + w / 2 ^ 12 % 8 * 2 ^ 12 + w % 128
and-funct7 w fits =
    omega (
      arith,
      and_le_r w 0xfe00707f,
      kept w 0xfe00707f 0 7 refl,
      dropped w 0xfe00707f 7 5 refl,
      kept w 0xfe00707f 12 3 refl,
      dropped w 0xfe00707f 15 10 refl,
      kept w 0xfe00707f 25 7 refl,
    )

-- the opcode, funct3 and the upper five bits
pub and-funct5 : (w : ℕ) → w < 2 ^ 32
    → bit_and w 0xf800707f ≡ w / 2 ^ 27 * 2 ^ 27 + w / 2 ^ 12 % 8 * 2 ^ 12 + w % 128
and-funct5 w fits =
    omega (
      arith,
      and_le_r w 0xf800707f,
      kept w 0xf800707f 0 7 refl,
      dropped w 0xf800707f 7 5 refl,
      kept w 0xf800707f 12 3 refl,
      dropped w 0xf800707f 15 12 refl,
      kept w 0xf800707f 27 5 refl,
    )

-- the same and rs2
pub and-rs2 : (w : ℕ) → w < 2 ^ 32
    → bit_and w 0xf9f0707f ≡ w / 2 ^ 27 * 2 ^ 27 + w / 2 ^ 20 % 32 * 2 ^ 20 + w / 2 ^ 12 % 8 * 2 ^ 12 + w % 128
and-rs2 w fits =
    omega (
      arith,
      and_le_r w 0xf9f0707f,
      kept w 0xf9f0707f 0 7 refl,
      dropped w 0xf9f0707f 7 5 refl,
      kept w 0xf9f0707f 12 3 refl,
      dropped w 0xf9f0707f 15 5 refl,
      kept w 0xf9f0707f 20 5 refl,
      dropped w 0xf9f0707f 25 2 refl,
      kept w 0xf9f0707f 27 5 refl,
    )

-- the whole word
pub and-word : (w : ℕ) → w < 2 ^ 32 → bit_and w 0xffffffff ≡ w
and-word w fits = rw (and_mask w 32) (omega arith)
