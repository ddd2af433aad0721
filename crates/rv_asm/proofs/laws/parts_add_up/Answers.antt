use Rattle.std.proofs.Common.{◌≡◌, arith}
use Rattle.std.specs.Prelude.{ℤ, pos, ◌+ℤ◌, ◌-ℤ◌}
use Rattle.std.specs.Int.{int_div_euclid}
use Rattle.std.proofs.lemmas.Int.{ints}
use Rattle.rv_asm.specs.Assembly.{upper}
use Rattle.rv_asm.proofs.Reach.{lower_fits, times_multiple}
use Rattle.rv_asm.proofs.laws.parts_add_up.Goals as goal

sum_of_parts : (d u : ℤ) → (u +ℤ (d -ℤ u)) ≡ d
sum_of_parts d u = omega (arith, ints)

pub returns : goal.returns
returns c = λ d. (sum_of_parts d (upper d), times_multiple (int_div_euclid (d +ℤ pos 2048) (pos 4096)), lower_fits d)
