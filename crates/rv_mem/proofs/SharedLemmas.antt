-- Bytes of a page of zeros.
use Rattle.std.proofs.Common.{◌≡◌, ℕ, ◌+◌, ◌-◌, ◌≤◌, ◌<◌, zero, suc, true, take, drop, replicate, ap, ◌∙◌, arith, cond, nat_eq, nat_lt, Some, None}
use Rattle.std.specs.Prelude.{position}
use Rattle.std.proofs.lemmas.List.{take-replicate, drop-replicate, length-replicate}
use Rattle.std.proofs.lemmas.Bool.Decides.{nat_tests}
use Rattle.rv_mem.specs.Page.{zero_bytes}

-- a part of a page of zeros
pub zeros_in_page : (i n : ℕ) → i + n ≤ 4096 → take n (drop i zero_bytes) ≡ replicate n 0
unfolding zero_bytes
zeros_in_page i n h = ap (take n) (drop-replicate i 4096 0) ∙ take-replicate n (4096 - i) 0 (omega arith)

some_below : (n : ℕ) → nat_lt 0 (suc n) ≡ true
some_below n = grind (arith, nat_tests)

-- its first zero is its first byte
pub first_zero : (n : ℕ) → 0 < n → position (λ b. nat_eq b 0) (replicate {A = ℕ} n 0) ≡ Some 0
first_zero zero h = absurd (omega arith)
first_zero (suc n) h = ap (λ b. cond b (Some 0) None) (ap (nat_lt 0) (length-replicate (suc n) 0) ∙ some_below n)
