-- Two's complement at any width.
use Rattle.std.proofs.Common.{◌≡◌, ℕ, zero, suc, ◌+◌, ◌-◌, ◌*◌, ◌%◌, ◌^◌, ◌<◌, ◌≤◌, false, refl, ap, sym, arith, ltb, lt-ltb, le-ltb, inl, inr, zero-add, ◌∙◌}
use Rattle.std.specs.Prelude.{ℤ, pos, negsuc, ◌-ℤ◌}
use Rattle.std.proofs.Math.Nat.{pow-suc, add-mod, mod-mod}
use Rattle.std.proofs.lemmas.Bool.{cases_lt}
use Rattle.rv_table.specs.Rows.{signed}
use Rattle.rv_table.specs.Encoding.{FitsWidth, unsigned, IsMultiple}

halves : (width : ℕ) → 1 ≤ width → 2 ^ width ≡ 2 * 2 ^ (width - 1)
halves zero some = absurd (omega arith)
halves (suc width) some =
    let less : suc width - 1 ≡ width = omega arith in
    rw less (omega (arith, pow-suc 2 width))

-- a number below m, less m
below-minus : (n m : ℕ) → n < m → pos n -ℤ pos m ≡ negsuc (m - 1 - n)
below-minus n zero h = absurd (omega arith)
below-minus n (suc m) h =
    let rest : suc m - suc n ≡ suc m - 1 - n = omega arith in
    rw (lt-ltb n (suc m) h) (ap negsuc rest)

pub unsigned-lt : (width : ℕ) → 1 ≤ width → (z : ℤ) → FitsWidth width z → unsigned width z < 2 ^ width
unsigned-lt width some (pos n) h = omega (arith, halves width some)
unsigned-lt width some (negsuc n) h = omega (arith, halves width some)

pub signed-unsigned : (width : ℕ) → 1 ≤ width → (z : ℤ) → FitsWidth width z → signed width (unsigned width z) ≡ z
signed-unsigned width some (pos n) h = rw (lt-ltb n (2 ^ (width - 1)) h) refl
signed-unsigned width some (negsuc n) h =
    let whole = halves width some in
    let upper : ltb (2 ^ width - 1 - n) (2 ^ (width - 1)) ≡ false = le-ltb _ _ (omega arith) in
    let back : 2 ^ width - 1 - (2 ^ width - 1 - n) ≡ n = omega arith in
    rw (upper, below-minus (2 ^ width - 1 - n) (2 ^ width) (omega arith), back) refl

pub FitsWidth-signed : (width : ℕ) → 1 ≤ width → (n : ℕ) → n < 2 ^ width → FitsWidth width (signed width n)
FitsWidth-signed width some n h =
    let whole = halves width some in
    elim (cases_lt n (2 ^ (width - 1))) [
      | inl lower ↦ rw (lt-ltb n (2 ^ (width - 1)) lower) lower
      | inr upper ↦
          let room : 2 ^ width - 1 - n < 2 ^ (width - 1) = omega arith in
          rw (le-ltb n (2 ^ (width - 1)) upper, below-minus n (2 ^ width) h) room
    ]

pub unsigned-signed : (width : ℕ) → 1 ≤ width → (n : ℕ) → n < 2 ^ width → unsigned width (signed width n) ≡ n
unsigned-signed width some n h =
    elim (cases_lt n (2 ^ (width - 1))) [
      | inl lower ↦ rw (lt-ltb n (2 ^ (width - 1)) lower) refl
      | inr upper ↦
          let back : 2 ^ width - 1 - (2 ^ width - 1 - n) ≡ n = omega arith in
          rw (le-ltb n (2 ^ (width - 1)) upper, below-minus n (2 ^ width) h) back
    ]

-- ---- multiples

multiple_rest : (unit a b : ℕ) → (a + b) % unit ≡ 0 → a % unit ≡ 0 → b % unit ≡ 0
multiple_rest unit a b whole first =
    let parts : (a % unit + b % unit) % unit ≡ 0 = sym (add-mod a b unit) ∙ whole in
    let rest : (0 + b % unit) % unit ≡ 0 = rw first at parts in
    sym (mod-mod b unit) ∙ rw zero-add at rest

pub unsigned-multiple : (unit width : ℕ) → 1 ≤ width → 2 ^ width % unit ≡ 0 → (z : ℤ) → FitsWidth width z → IsMultiple unit z
    → unsigned width z % unit ≡ 0
unsigned-multiple unit width some whole (pos n) h multiple = multiple
unsigned-multiple unit width some whole (negsuc n) h multiple =
    let sum : suc n + (2 ^ width - 1 - n) ≡ 2 ^ width = omega (arith, halves width some) in
    multiple_rest unit (suc n) (2 ^ width - 1 - n) (ap (λ k. k % unit) sum ∙ whole) multiple

pub IsMultiple-signed : (unit width : ℕ) → 1 ≤ width → 2 ^ width % unit ≡ 0 → (n : ℕ) → n < 2 ^ width → n % unit ≡ 0
    → IsMultiple unit (signed width n)
IsMultiple-signed unit width some whole n h multiple =
    elim (cases_lt n (2 ^ (width - 1))) [
      | inl lower ↦ rw (lt-ltb n (2 ^ (width - 1)) lower) multiple
      | inr upper ↦
          let sum : n + suc (2 ^ width - 1 - n) ≡ 2 ^ width = omega arith in
          let rest = multiple_rest unit n (suc (2 ^ width - 1 - n)) (ap (λ k. k % unit) sum ∙ whole) multiple in
          rw (le-ltb n (2 ^ (width - 1)) upper, below-minus n (2 ^ width) h) rest
    ]
