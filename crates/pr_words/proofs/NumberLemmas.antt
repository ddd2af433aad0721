-- Decimal digits, and the number that they write.
use Rattle.std.proofs.Common.{◌≡◌, ℕ, ◌^◌, ◌<◌, ◌≤◌, List, [], ◌∷◌, length, true, false, None, Err, arith, rules, ◌*◌, ◌+◌, ◌-◌, refl, Bool, Some}
use Rattle.std.specs.Prelude.{nat_le, IsUtf8, ◌&&◌, if◌then◌else◌}
use Rattle.std.specs.List.{list_all}
use Rattle.std.specs.Str.Parse.{digits_value, ParsesUnsigned}
use Rattle.std.proofs.lemmas.Bool.{and_parts, leb-true}
use Rattle.std.proofs.lemmas.Bool.Decides.{nat_tests}
use Rattle.std.proofs.lemmas.Str.{IsUtf8-from_ascii}
use Rattle.std.proofs.lemmas.Str.Parse.{IsNumeralModel, IsDigitsTest, numerals_by_fold, parse_digits}
use Rattle.std.proofs.lemmas.Fmt.{IsAscii-from_digits}
use Rattle.pr_words.specs.Values.{is_digit, is_numeral, number_of}

abbrev AreDigits : List ℕ → Type 0
AreDigits ds = list_all is_digit ds ≡ true

digits_test : IsDigitsTest AreDigits
digits_test = search rules

abbrev read_on : ℕ → List ℕ → ℕ
read_on n [] = n
read_on n (c ∷ cs) = read_on (10 * n + (c - 48)) cs

by_fold : IsNumeralModel AreDigits (read_on 0)
by_fold = numerals_by_fold _ digits_test read_on (search rules)

pub numerals : IsNumeralModel AreDigits (digits_value 10)
numerals = record { to = by_fold.to; from = by_fold.from; same = λ ds all. refl }

pub numeral_parts : (digits : ℕ) (t : List ℕ) → is_numeral digits t ≡ true → (0 < length t) × (length t ≤ digits) × AreDigits t
numeral_parts digits t h =
    let p = and_parts _ _ h in
    let q = and_parts _ _ p.1 in
    (leb-true _ _ p.0, leb-true _ _ q.0, q.1)

-- digits are text
pub numeral_is_text : (digits : ℕ) (t : List ℕ) → is_numeral digits t ≡ true → IsUtf8 t
numeral_is_text digits t h = IsUtf8-from_ascii t (IsAscii-from_digits t (numerals.to t (numeral_parts digits t h).2))

neither : {A : Type 0} (a b : Bool) (x y : A) → (if a && (b && false) then x else y) ≡ y
neither true true x y = refl
neither true false x y = refl
neither false b x y = refl

-- what `parse` refuses is too large
pub number_of-unparsed : {E : Type 0} (digits least most : ℕ) (t : List ℕ) (e : E) → most < 2 ^ 32 → is_numeral digits t ≡ true → ParsesUnsigned {E = E} 32 10 t (Err e) → number_of digits least most t ≡ None
number_of-unparsed {E} digits least most t e small h p =
    let parts = numeral_parts digits t h in
    let large : digits_value 10 t < 2 ^ 32 → ⊥ = λ low. parse_digits numerals {E = E} 32 t (Err e) p parts.2 (parts.0, low) in
    let no : nat_le (digits_value 10 t) most ≡ false = grind (arith, nat_tests) in
    rw no (neither (is_numeral digits t) (nat_le least (digits_value 10 t)) (Some (digits_value 10 t)) None)
