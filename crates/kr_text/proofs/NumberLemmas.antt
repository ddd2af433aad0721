-- Numbers read digit after digit.
use Rattle.std.proofs.Common.{◌≡◌, ℕ, ◌+◌, ◌*◌, ◌<◌, ◌≤◌, List, [], ◌∷◌, length, drop, get_or, suc, Bool, true, false, Result, Ok, Err, refl, ap, ◌∙◌, arith, drop-cons}
use Rattle.std.specs.Prelude.{nat_le, nat_lt, ◌&&◌, if◌then◌else◌}
use Rattle.std.specs.List.{list_all}
use Rattle.std.specs.Char.{is_digit, digit_value}
use Rattle.std.specs.Str.Parse.{digits_value_after}
use Rattle.kr_text.specs.Fields.{numeral}
use Rattle.std.proofs.Math.Nat.{mul-le-mul_left}
use Rattle.std.proofs.lemmas.Bool.{lt-ltb, ltb-true, le-leb, leb-true, false_from_ne_true}
use Rattle.kr_text.specs.declared.fault.TreeWhy.{TreeWhy}
use Rattle.kr_text.specs.declared.fault.TreeWhy.TheVariants.{Number}

-- the number that digits write when they follow those of n
abbrev pub numeral_after : ℕ → ℕ → ℕ → List ℕ → Result ℕ TreeWhy
numeral_after radix most n text =
    if list_all (λ c. is_digit c radix) text && nat_le (digits_value_after radix n text) most then Ok (digits_value_after radix n text) else Err Number

pub digit_read : (radix most n c : ℕ) (cs : List ℕ) → digit_value c < radix → numeral_after radix most n (c ∷ cs) ≡ numeral_after radix most (n * radix + digit_value c) cs
digit_read radix most n c cs h = let is : nat_lt (digit_value c) radix ≡ true = lt-ltb _ _ h in rw is refl

pub other_read : (radix most n c : ℕ) (cs : List ℕ) → (digit_value c < radix → ⊥) → numeral_after radix most n (c ∷ cs) ≡ Err Number
other_read radix most n c cs h = let is : nat_lt (digit_value c) radix ≡ false = false_from_ne_true _ (λ t. h (ltb-true _ _ t)) in rw is refl

-- more digits don't make a number less
grows : (radix n : ℕ) (cs : List ℕ) → 1 ≤ radix → n ≤ digits_value_after radix n cs
grows radix n [] h = omega arith
grows radix n (c ∷ cs) h =
    let more = grows radix (n * radix + digit_value c) cs h in
    omega (arith, more, mul-le-mul_left n h)

neither : {A : Type 0} (b : Bool) (x y : A) → (if b && false then x else y) ≡ y
neither true x y = refl
neither false x y = refl

pub past_read : (radix most n : ℕ) (cs : List ℕ) → 1 ≤ radix → most < n → numeral_after radix most n cs ≡ Err Number
past_read radix most n cs h past =
    let more = grows radix n cs h in
    let is : nat_le (digits_value_after radix n cs) most ≡ false = false_from_ne_true _ (λ t. let fits = leb-true _ _ t in omega (arith, more, past, fits)) in
    rw is (neither (list_all (λ c. is_digit c radix) cs) (Ok (digits_value_after radix n cs)) (Err Number))

-- a digit in the middle that makes the number too large
pub past_at : (radix most n i : ℕ) (text : List ℕ) → i < length text → digit_value (get_or text i 0) < radix → 1 ≤ radix → most < n * radix + digit_value (get_or text i 0) → numeral_after radix most n (drop i text) ≡ Err Number
past_at radix most n i text inside digit some past =
    ap (λ t. numeral_after radix most n t) (drop-cons text i 0 inside)
    ∙ digit_read radix most n (get_or text i 0) (drop (suc i) text) digit
    ∙ past_read radix most (n * radix + digit_value (get_or text i 0)) (drop (suc i) text) some past

pub numeral_some : (radix most : ℕ) (text : List ℕ) → (length text ≡ 0 → ⊥) → numeral radix most text ≡ numeral_after radix most 0 text
numeral_some radix most [] some = absurd (some refl)
numeral_some radix most (c ∷ cs) some = let is : nat_le 1 (length (c ∷ cs)) ≡ true = le-leb 1 _ (omega arith) in rw is refl
