use Rattle.std.proofs.Common.{◌≡◌, ℕ, ◌+◌, ◌-◌, ◌/◌, ◌%◌, ◌^◌, ◌≤◌, bit_and, arith}
use Rattle.std.proofs.lemmas.Nat.{and_mask}
use Rattle.std.proofs.lemmas.Nat.Bits.{ones_shr}
use Rattle.pr_base.proofs.word.bits.Goals as goal

-- all ones of 32 bits, shifted down until `count` of them are left, keep the low `count` bits
low_ones_keep : (n count : ℕ) → 1 ≤ count → count ≤ 32 → bit_and n (4294967295 / 2 ^ (32 - count)) ≡ n % 2 ^ count
low_ones_keep n count some within =
    let ones : 4294967295 / 2 ^ (32 - count) ≡ 2 ^ (32 - (32 - count)) - 1 = ones_shr 32 (32 - count) (omega arith) in
    let left : 32 - (32 - count) ≡ count = omega arith in
    rw (ones, left) (and_mask n count)

pub returns : goal.returns
returns g c =
    let hi : ℕ = g.row.HI in
    let lo : ℕ = g.row.LO in
    let shift : 31 - (hi - lo) ≡ 32 - (hi - lo + 1) = omega arith in
    rw shift (low_ones_keep (c.args.w / 2 ^ lo) (hi - lo + 1) (omega arith) (omega (arith, c.requires.ordered, c.requires.within)))
