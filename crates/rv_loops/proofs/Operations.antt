-- What a loop stores is what the AMO of its operation stores.
use Rattle.std.proofs.Common.{◌≡◌, ℕ, ◌+◌, ◌/◌, ◌%◌, ◌^◌, ◌<◌, Bool, true, false, bit_and, bit_or, bit_xor, inl, inr, refl, sym, ap, ◌∙◌, arith, lt-ltb, le-ltb}
use Rattle.std.specs.Prelude.{Option, pos}
use Rattle.std.proofs.lemmas.Bool.{cases_lt}
use Rattle.std.proofs.lemmas.Nat.{and_mod, or_mod, xor_mod}
use Rattle.rv_cpu.specs.rv_mem.declared.regs.Regs.{Regs}
use Rattle.rv_cpu.specs.declared.reservation.Held.{Held}
use Rattle.rv_cpu.specs.Words.{wrapped, sum, both, either, exactly_one, sign_extended}
use Rattle.rv_cpu.specs.Step.{register, lowest_bytes, width, widened, gives, holds, reserves, stores_if_held, replaces, executed}
use Rattle.rv_loops.specs.declared.code.LoopOp.{LoopOp}
use Rattle.rv_loops.specs.declared.code.LoopOp.TheVariants.{Swap, Add, Xor, And, Or}
use Rattle.rv_loops.specs.declared.code.LoopRegs.{LoopRegs}
use Rattle.rv_loops.specs.Loops.{reserve, operate, conclude, amo}

-- ---- the instructions, by their parts

-- what the loop computes, and what the AMO does
abbrev pub computed : LoopOp → ℕ → ℕ → ℕ
computed Swap old value = sum value (wrapped (pos 0))
computed Add old value = sum old value
computed Xor old value = exactly_one old value
computed And old value = both old value
computed Or old value = either old value

abbrev pub combined : LoopOp → ℕ → ℕ → ℕ
combined Swap old value = value
combined Add old value = sum old value
combined Xor old value = exactly_one old value
combined And old value = both old value
combined Or old value = either old value

module _ (s : Regs) (held : Option Held) (r : LoopRegs) where
  pub reserve-executed : (wide : Bool) → executed s held (reserve wide r) ≡ reserves s held wide r.rd (register s r.rs1)
  reserve-executed true = refl
  reserve-executed false = refl

  pub operate-executed : (op : LoopOp) → executed s held (operate op r) ≡ holds held (gives s r.value (computed op (register s r.rd) (register s r.rs2)))
  operate-executed Swap = refl
  operate-executed Add = refl
  operate-executed Xor = refl
  operate-executed And = refl
  operate-executed Or = refl

  pub conclude-executed : (wide : Bool) → executed s held (conclude wide r) ≡ stores_if_held s held wide r.failed (register s r.rs1) (lowest_bytes (width wide) (register s r.value))
  conclude-executed true = refl
  conclude-executed false = refl

  pub amo-executed : (op : LoopOp) (wide : Bool) → executed s held (amo op wide r) ≡ replaces s held wide r.rd (register s r.rs1) (register s r.rs2) (combined op)
  amo-executed Swap true = refl
  amo-executed Swap false = refl
  amo-executed Add true = refl
  amo-executed Add false = refl
  amo-executed Xor true = refl
  amo-executed Xor false = refl
  amo-executed And true = refl
  amo-executed And false = refl
  amo-executed Or true = refl
  amo-executed Or false = refl

-- ---- the bytes that are stored

bytes_of_4 : (n : ℕ) → lowest_bytes 4 (n % 2 ^ 32) ≡ lowest_bytes 4 n
bytes_of_4 n =
    let b0 : n % 2 ^ 32 % 256 ≡ n % 256 = omega arith in
    let b1 : n % 2 ^ 32 / 256 ^ 1 % 256 ≡ n / 256 ^ 1 % 256 = omega arith in
    let b2 : n % 2 ^ 32 / 256 ^ 2 % 256 ≡ n / 256 ^ 2 % 256 = omega arith in
    let b3 : n % 2 ^ 32 / 256 ^ 3 % 256 ≡ n / 256 ^ 3 % 256 = omega arith in
    rw (b0, b1, b2, b3) refl

bytes_of_8 : (n : ℕ) → lowest_bytes 8 (n % 2 ^ 64) ≡ lowest_bytes 8 n
bytes_of_8 n =
    let b0 : n % 2 ^ 64 % 256 ≡ n % 256 = omega arith in
    let b1 : n % 2 ^ 64 / 256 ^ 1 % 256 ≡ n / 256 ^ 1 % 256 = omega arith in
    let b2 : n % 2 ^ 64 / 256 ^ 2 % 256 ≡ n / 256 ^ 2 % 256 = omega arith in
    let b3 : n % 2 ^ 64 / 256 ^ 3 % 256 ≡ n / 256 ^ 3 % 256 = omega arith in
    let b4 : n % 2 ^ 64 / 256 ^ 4 % 256 ≡ n / 256 ^ 4 % 256 = omega arith in
    let b5 : n % 2 ^ 64 / 256 ^ 5 % 256 ≡ n / 256 ^ 5 % 256 = omega arith in
    let b6 : n % 2 ^ 64 / 256 ^ 6 % 256 ≡ n / 256 ^ 6 % 256 = omega arith in
    let b7 : n % 2 ^ 64 / 256 ^ 7 % 256 ≡ n / 256 ^ 7 % 256 = omega arith in
    rw (b0, b1, b2, b3, b4, b5, b6, b7) refl

-- a word that is sign-extended has its lower bits
low_bits : (n : ℕ) → sign_extended n % 2 ^ 32 ≡ n % 2 ^ 32
low_bits n =
    elim (cases_lt (n % 2 ^ 32) (2 ^ 31)) [
      | inl lower ↦ rw (lt-ltb (n % 2 ^ 32) (2 ^ 31) lower) (omega arith)
      | inr upper ↦ rw (le-ltb (n % 2 ^ 32) (2 ^ 31) upper) (omega arith)
    ]

same_low_bits : (op : LoopOp) (a b value : ℕ) → a % 2 ^ 32 ≡ b % 2 ^ 32 → computed op a value % 2 ^ 32 ≡ combined op b value % 2 ^ 32
same_low_bits Swap a b value e = omega arith
same_low_bits Add a b value e = omega arith
same_low_bits Xor a b value e = xor_mod a value 32 ∙ ap (λ n. bit_xor n (value % 2 ^ 32)) e ∙ sym (xor_mod b value 32)
same_low_bits And a b value e = and_mod a value 32 ∙ ap (λ n. bit_and n (value % 2 ^ 32)) e ∙ sym (and_mod b value 32)
same_low_bits Or a b value e = or_mod a value 32 ∙ ap (λ n. bit_or n (value % 2 ^ 32)) e ∙ sym (or_mod b value 32)

pub same_bytes : (op : LoopOp) (wide : Bool) (old value : ℕ) → lowest_bytes (width wide) (computed op (widened wide old) value) ≡ lowest_bytes (width wide) (combined op old value)
same_bytes op false old value =
    sym (bytes_of_4 (computed op (sign_extended old) value))
    ∙ ap (lowest_bytes 4) (same_low_bits op (sign_extended old) old value (low_bits old))
    ∙ bytes_of_4 (combined op old value)
same_bytes Swap true old value =
    let none : (value + 0) % 2 ^ 64 ≡ value % 2 ^ 64 = omega arith in
    ap (lowest_bytes 8) none ∙ bytes_of_8 value
same_bytes Add true old value = refl
same_bytes Xor true old value = refl
same_bytes And true old value = refl
same_bytes Or true old value = refl
