use Rattle.std.proofs.Common.{◌≡◌, ◌+◌, ◌≤◌, ◌<◌, ◌/◌, ◌%◌, ◌^◌, ◌∷◌, [], ℕ, length, arith, ap, ◌∙◌}
use Rattle.std.specs.Fmt.{decimal}
use Rattle.std.proofs.lemmas.List.{length-append}
use Rattle.std.proofs.lemmas.Fmt.{decimal_digit, decimal_step, length-decimal-le}
use Rattle.kr_walk.proofs.name.digits.Goals as goal

-- a number of 32 bits has at most ten digits
ten : (n : ℕ) → n < 2 ^ 32 → length (decimal n) ≤ 10
ten n h = length-decimal-le 10 n (omega arith) (omega arith) (omega arith)

one_less : (n : ℕ) → 10 ≤ n → n < 2 ^ 32 → length (decimal n) ≡ length (decimal (n / 10)) + 1
one_less n h l = ap length (decimal_step n h (omega arith)) ∙ length-append (decimal (n / 10)) ((48 + n % 10) ∷ [])

one_digit : (n : ℕ) → n < 10 → length (decimal n) ≡ 1
one_digit n h = ap length (decimal_digit n h)

pub overflow_add-count : goal.overflow_add-count
overflow_add-count c = let all = ten c.args.number (omega arith) in omega arith

pub loop-left-preserved : goal.loop-left-preserved
loop-left-preserved c =
    let step = one_less c.loop-left.left (omega arith) c.loop-left.invariant.small in
    record { small = omega arith; some = omega arith; exact = omega arith }

pub returns-clause-exact : goal.returns-clause-exact
returns-clause-exact c =
    let last = one_digit c.loop-left.left (omega arith) in omega arith

pub returns-clause-small : goal.returns-clause-small
returns-clause-small c =
    let all = ten c.args.number (omega arith) in
    let last = one_digit c.loop-left.left (omega arith) in omega arith
